-- The first that has room is found.
use Rattle.std.proofs.Common.{arith, sym, ◌∙◌}
use Rattle.info_header.proofs.FrameLemmas.{first-here, first-later, first-none}
use Rattle.info_header.proofs.writing.first_with_room.Goals as goal

pub returns-then-area_of-ge-FIELDS : goal.returns-then-area_of-ge-FIELDS
returns-then-area_of-ge-FIELDS c =
    sym (c.loop-slot.invariant
    ∙ first-here c.args.class c.args.slots.now
    (omega (arith, c.loop-slot-test.true)) c.slot-item.is
    (omega (arith, c.area_of.ensures.area, c.if-area_of-ge-FIELDS.true)))

pub loop-slot-preserved : goal.loop-slot-preserved
loop-slot-preserved c =
    c.loop-slot.invariant
    ∙ first-later c.args.class c.args.slots.now
    (omega (arith, c.loop-slot-test.true)) c.slot-item.is
    (omega (arith, c.area_of.ensures.area, c.if-area_of-ge-FIELDS.false))

pub returns : goal.returns
returns c = sym (c.loop-slot.invariant
    ∙ first-none c.args.class c.args.slots.now (omega (arith, c.loop-slot-test.false)))
