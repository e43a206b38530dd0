-- The largest area, and the bits of main_data_begin.
use Rattle.reservoir.proofs.FrameLemmas.{frames-held}
use Rattle.reservoir.proofs.laws.frames_are_held.Goals as goal

pub returns : goal.returns
returns c = frames-held
