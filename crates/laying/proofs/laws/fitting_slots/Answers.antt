-- One frame, one slot.
use Rattle.laying.proofs.FittingFrameLemmas.{fitting-slots}
use Rattle.laying.proofs.laws.fitting_slots.Goals as goal

pub returns : goal.returns
returns c = fitting-slots
