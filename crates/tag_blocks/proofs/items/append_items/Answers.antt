-- The bytes of one item more.
use Rattle.std.proofs.{Common.{arith, take_all}, lemmas.List.Sums.AllPass-from_list_all}
use Rattle.tag_blocks.proofs.ItemsLemmas.{items_more}
use Rattle.tag_blocks.proofs.items.append_items.Goals as goal

pub append-requires : goal.append-requires
append-requires c = grind (arith, AllPass-from_list_all)

pub loop-item-preserved : goal.loop-item-preserved
loop-item-preserved c =
    items_more c.args.items.now _ c.args.bytes.now.items
    c.item-item.is c.loop-item-test.true c.loop-item.invariant c.in_ok-append.ensures

pub returns : goal.returns
returns c = grind (arith, take_all)
