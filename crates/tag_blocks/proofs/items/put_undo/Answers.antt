-- The undo item has the new value, or is added after all others.
use Rattle.std.{proofs.Common.{ap, ap₂, set, sym, [], ◌++◌, ◌∙◌, ◌∷◌, ◌≡◌}, specs.Prelude.position}
use Rattle.tag_blocks.{proofs.UndoItemsLemmas.{added, replaced}, specs.Items.{is_undo, TagItem}}
use Rattle.tag_blocks.specs.UndoText.{undo_text}
use Rattle.tag_blocks.proofs.items.put_undo.Goals as goal

pub returns-in-Some-clause-put : goal.returns-in-Some-clause-put
returns-in-Some-clause-put c =
    let undo = c.args.undo.now in
    let items = c.args.items.now.items in
    let value : c.in_ok-value.value.items ≡ undo_text undo =
    c.in_ok-value.ensures ∙ c.text.ensures.text in
    let found =
    ap (position is_undo) (sym c.deref.ensures.value) ∙ sym c.undo_index.ensures ∙ c.in-Some.is in
    replaced undo items found
    c.index_mut-item.ensures.value
    (ap (λ v. set items c.in-Some.at
    (record { key = c.item.inside.key.items; flags = c.item.inside.flags; value = v })) value
    ∙ ap (λ (i : TagItem). set items c.in-Some.at (record i { value = undo_text undo }))
    c.item.view_is)

pub returns-in_ok-push-in-None-clause-put : goal.returns-in_ok-push-in-None-clause-put
returns-in_ok-push-in-None-clause-put c =
    let undo = c.args.undo.now in
    let items = c.args.items.now.items in
    let value : c.in_ok-value.value.items ≡ undo_text undo =
    c.in_ok-value.ensures ∙ c.text.ensures.text in
    let none =
    ap (position is_undo) (sym c.deref.ensures.value) ∙ sym c.undo_index.ensures ∙ c.in-None.is in
    added undo items none
    (c.in_ok-push-in-None.ensures.items ∙ ap₂ (λ k v. items
    ++ (record { key = k; flags = 0; value = v } ∷ [])) c.in_ok-key-in-None.ensures value)
