-- The items from here on say what all items say, and this many bytes are before them.
use Rattle.std.proofs.Common.{drop, ◌+◌, ◌≡◌}
use Rattle.tag_blocks.specs.{Items.items_length, UndoItems.undo_from}
use Rattle.tag_blocks.proofs.tag.Tag.undo.Given as goal

abbrev pub invariant-loop-item : goal.invariant-loop-item
invariant-loop-item l = record {
  says : undo_from 32 l.item-items ≡ undo_from l.offset (drop l.item-index l.item-items);
  offset : l.offset + items_length (drop l.item-index l.item-items)
      ≡ 32 + items_length l.item-items;
}
