-- One more slot.
use Rattle.std.proofs.Common.{arith, subst, sym}
use Rattle.slot_plan.proofs.TableLemmas.{IsTableTo, Rise, rise-areas, table-all, table-more}
use Rattle.slot_plan.proofs.TableLemmas.{table-none}
use Rattle.slot_plan.proofs.table.SlotTable.new.Goals as goal

pub loop-slot-init : goal.loop-slot-init
loop-slot-init c = grind (arith, table-none)

pub loop-slot-preserved : goal.loop-slot-preserved
loop-slot-preserved c =
    grind (arith, table-more, rise-areas c.args.class c.args.slots.now c.requires.ascending)

pub returns : goal.returns
returns c =
    let class = sym c.new-lengths.ensures.class in
    let table = table-all c.requires.some
    (omega (arith, c.loop-slot-test.false, c.loop-slot.auto.slot-index-end))
    (subst (λ k. Rise k c.args.slots.now) class
    (rise-areas c.args.class c.args.slots.now c.requires.ascending))
    (subst (λ k. IsTableTo k c.args.slots.now c.loop-slot.slot-index c.loop-slot.by_length.items)
    class c.loop-slot.invariant) in
    record { class_is = c.new-lengths.ensures.class; of_slots = table }
