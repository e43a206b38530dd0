-- No other item changes.
use Rattle.tag_blocks.proofs.UndoItemsLemmas.{others-with_undo, others-without_undo}
use Rattle.tag_blocks.proofs.UndoItemsLemmas.{undo_from-missing, undo_from-with_undo}
use Rattle.tag_blocks.proofs.UndoItemsLemmas.{undos-without_undo, without_undo-with_undo}
use Rattle.tag_blocks.{proofs.UndoTextLemmas.undo_of-undo_text, specs.UndoItems.without_undo}
use Rattle.tag_blocks.proofs.laws.undo_items_alone_change.Goals as goal

pub returns : goal.returns
returns c = λ undo items fits one. record {
  put = λ offset. undo_from-with_undo items offset (undo_of-undo_text fits);
  put_others = others-with_undo undo items;
  gone = λ offset. undo_from-missing (without_undo items) offset (undos-without_undo items one);
  gone_others = others-without_undo items;
  back = without_undo-with_undo undo items;
}
