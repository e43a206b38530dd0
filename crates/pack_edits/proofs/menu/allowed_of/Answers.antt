-- One more slot is kept or left out.
use Rattle.std.proofs.{Common.{append-nil, arith}, lemmas.List.Elements.filter_more}
use Rattle.pack_edits.specs.Rates.{allows}
use Rattle.pack_edits.proofs.menu.allowed_of.Goals as goal

pub loop-slot-preserved : goal.loop-slot-preserved
loop-slot-preserved c =
    grind (
      arith,
      filter_more (allows c.args.mode c.args.class) c.args.slots.now
          c.loop-slot.slot-index c.slot-item.result c.loop-slot-test.true,
      append-nil,
    )
