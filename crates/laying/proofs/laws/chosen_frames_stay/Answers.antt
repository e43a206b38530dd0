-- They are laid after the Info frame.
use Rattle.laying.proofs.LaidLemmas.{chosen-frames-stay}
use Rattle.laying.proofs.laws.chosen_frames_stay.Goals as goal

pub returns : goal.returns
returns c = chosen-frames-stay
