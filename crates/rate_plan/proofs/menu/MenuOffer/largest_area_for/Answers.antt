-- The table has an entry for 0 bytes, and the largest area is one of the menu's.
use Rattle.std.proofs.Common.{arith}
use Rattle.rate_plan.proofs.FitLemmas.{has-greatest_number}
use Rattle.slot_plan.proofs.TableLemmas.{table-within}
use Rattle.rate_plan.proofs.menu.MenuOffer.largest_area_for.Goals as goal

pub largest_area-requires : goal.largest_area-requires
largest_area-requires c = grind (arith, table-within)

pub returns-clause-has : goal.returns-clause-has
returns-clause-has c = grind (arith, has-greatest_number)
