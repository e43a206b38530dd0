-- The length of the items so far.
use Rattle.std.proofs.Common.{take, ◌≡◌}
use Rattle.tag_blocks.specs.Items.{items_length}
use Rattle.tag_blocks.proofs.items.items_length.Given as goal

abbrev pub invariant-loop-item : goal.invariant-loop-item
invariant-loop-item l = l.length ≡ items_length (take l.item-index l.items)
