-- They are laid after the Info frame.
use Rattle.laying.proofs.FittingFrameLemmas.{planned-frames-stay}
use Rattle.laying.proofs.laws.planned_frames_stay.Goals as goal

pub returns : goal.returns
returns c = planned-frames-stay
