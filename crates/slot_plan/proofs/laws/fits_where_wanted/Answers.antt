-- At least the bytes that they want are enough.
use Rattle.slot_plan.proofs.FreeByteLemmas.{where-wanted}
use Rattle.slot_plan.proofs.laws.fits_where_wanted.Goals as goal

pub returns : goal.returns
returns c = where-wanted
