-- The others fit in what the first leave.
use Rattle.slot_plan.proofs.FreeByteLemmas.{behind-left}
use Rattle.slot_plan.proofs.laws.fits_behind_what_is_left.Goals as goal

pub returns : goal.returns
returns c = behind-left
