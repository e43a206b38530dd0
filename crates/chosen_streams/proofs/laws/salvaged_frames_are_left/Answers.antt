-- Frame by frame.
use Rattle.chosen_streams.proofs.SalvageCaseLemmas.{salvaged-left}
use Rattle.chosen_streams.proofs.laws.salvaged_frames_are_left.Goals as goal

pub returns : goal.returns
returns c = salvaged-left
