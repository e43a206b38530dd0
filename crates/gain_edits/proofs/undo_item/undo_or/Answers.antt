-- The item is within the tag, and the tag within the file.
use Rattle.std.proofs.Common.{arith, sym, ◌∙◌}
use Rattle.gain_edits.proofs.RefusalLemmas.{bad_place}
use Rattle.moved_gains.proofs.TagEndLemmas.{tag_end-most}
use Rattle.gain_edits.proofs.undo_item.undo_or.Goals as goal

pub overflow_add-at : goal.overflow_add-at
overflow_add-at c =
    grind (
      arith,
      tag_end-most c.requires,
      bad_place 32
          c.args.tag.now.items (sym c.undo.ensures ∙ c.in-Bad.is),
    )
