-- The longest frame has the largest area.
use Rattle.std.proofs.Common.{arith}
use Rattle.slot_plan.proofs.TableLemmas.{last-looked}
use Rattle.slot_plan.proofs.table.SlotTable.largest_area.Goals as goal

pub returns : goal.returns
returns c = grind (arith, last-looked)
