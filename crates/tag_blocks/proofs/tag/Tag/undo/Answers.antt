-- The offsets stay within the tag.
use Rattle.std.proofs.{Common.{ap, arith}, lemmas.List.Sums.sum_by-drop_more}
use Rattle.tag_blocks.{proofs.TagsLemmas.items_length-most, specs.Items.{item_length, items_length}}
use Rattle.tag_blocks.proofs.tag.Tag.undo.Goals as goal

pub length-requires : goal.length-requires
length-requires c =
    let more = sum_by-drop_more item_length
    c.deref-item-items.result.now c.loop-item.item-index c.item-item.result c.loop-item-test.true in
    omega (
      arith,
      ap item_length c.item-item.is,
      more,
      c.loop-item.invariant.offset,
      ap items_length c.deref-item-items.ensures.value,
      items_length-most c.self.invariant,
    )

pub overflow_add-offset : goal.overflow_add-offset
overflow_add-offset c =
    let more = sum_by-drop_more item_length
    c.deref-item-items.result.now c.loop-item.item-index c.item-item.result c.loop-item-test.true in
    omega (
      arith,
      ap item_length c.item-item.is,
      more,
      c.loop-item.invariant.offset,
      ap items_length c.deref-item-items.ensures.value,
      items_length-most c.self.invariant,
      c.length.ensures,
    )
