-- A tag with another undo item is a tag, and after a refusal it is the same tag.
use Rattle.std.proofs.Common.{Err, List, Ok, subst, sym, ℕ, ◌≡◌}
use Rattle.std.specs.Prelude.{OnErr, OnOk, Result}
use Rattle.tag_blocks.{proofs.UndoItemsLemmas.IsTag-with_undo, specs.{Items.TagItem, Tags.IsTag}}
use Rattle.tag_blocks.specs.{UndoItems.with_undo, declared.undo.Undo.Undo}
use Rattle.tag_blocks.proofs.tag.Tag.set_undo.Goals as goal

put_cases : {T E : Type 0} (r : Result T E) (header footer : ℕ) (old new : List TagItem)
    (undo : Undo) → IsTag (record { header_flags = header; footer_flags = footer; items = old })
    → OnOk r (new ≡ with_undo undo old) → OnErr r (new ≡ old)
    → IsTag (record { header_flags = header; footer_flags = footer; items = new })
put_cases (Ok u) header footer old new undo is put stays =
    subst (λ items. IsTag (record { header_flags = header; footer_flags = footer; items = items }))
    (sym put)
    (IsTag-with_undo undo is)
put_cases (Err e) header footer old new undo is put stays =
    subst (λ items. IsTag (record { header_flags = header; footer_flags = footer; items = items }))
    (sym stays) is

pub invariant_of-self : goal.invariant_of-self
invariant_of-self c = put_cases c.put_undo.result _ _ _ _
    c.args.undo.now c.self.invariant c.put_undo.ensures.put c.put_undo.ensures.stays
