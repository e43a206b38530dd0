-- The bytes of the items so far were added.
use Rattle.std.proofs.Common.{take, ◌++◌, ◌≡◌}
use Rattle.tag_blocks.specs.Items.{items_bytes}
use Rattle.tag_blocks.proofs.items.append_items.Given as goal

abbrev pub invariant-loop-item : goal.invariant-loop-item
invariant-loop-item l =
    l.bytes.items ≡ l.initial.bytes.items ++ items_bytes (take l.item-index l.items)
