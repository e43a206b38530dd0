-- No area is larger than the area of the largest slot.
use Rattle.rate_plan.proofs.LargestSlotLemmas.{largest-fits}
use Rattle.rate_plan.proofs.laws.largest_slot_fits.Goals as goal

pub returns : goal.returns
returns c = largest-fits
