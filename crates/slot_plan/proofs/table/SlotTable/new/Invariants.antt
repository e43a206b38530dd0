-- The table of the slots before this one.
use Rattle.slot_plan.proofs.TableLemmas.{IsTableTo}
use Rattle.slot_plan.proofs.table.SlotTable.new.Given as goal

abbrev pub invariant-loop-slot : goal.invariant-loop-slot
invariant-loop-slot l = IsTableTo l.class l.slots l.slot-index l.by_length.items
