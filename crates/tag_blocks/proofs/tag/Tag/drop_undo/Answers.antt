-- The undo item is removed, and all others stay.
use Rattle.std.{proofs.Common.{ap, refl, subst, sym, ◌∙◌, ◌≡◌}, specs.Prelude.position}
use Rattle.tag_blocks.proofs.UndoItemsLemmas.{IsTag-without_undo, none_removed, removed}
use Rattle.tag_blocks.specs.{Items.is_undo, Tags.IsTag, UndoItems.without_undo}
use Rattle.tag_blocks.proofs.tag.Tag.drop_undo.Goals as goal

is_removed : (c : goal.After-drop-remove-in-Some)
    → c.remove.new.self.items ≡ without_undo c.self.inside.items.items
is_removed c =
    removed c.self.inside.items.items
    (ap (position is_undo) (sym c.deref.ensures.value) ∙ sym c.undo_index.ensures ∙ c.in-Some.is)
    c.remove.ensures.by_index.2

pub invariant_of-self : goal.invariant_of-self
invariant_of-self c =
    subst (λ items. IsTag (record {
      header_flags = c.self.inside.header_flags;
      footer_flags = c.self.inside.footer_flags;
      items = items;
    })) (sym (is_removed c)) (IsTag-without_undo c.self.invariant)

pub returns-in-Some : goal.returns-in-Some
returns-in-Some c = rw (is_removed c, ← c.self.view_is) refl

pub returns-in_default : goal.returns-in_default
returns-in_default c =
    let same = none_removed (ap (position is_undo)
    (sym c.deref.ensures.value) ∙ sym c.undo_index.ensures ∙ c.in_default.is) in
    sym c.self.view_is ∙ ap (λ items. record {
      header_flags = c.self.inside.header_flags;
      footer_flags = c.self.inside.footer_flags;
      items = items;
    }) same ∙ rw (← c.self.view_is) refl
