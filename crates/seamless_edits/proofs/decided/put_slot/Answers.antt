-- The first of the needs is put into the slot.
use Rattle.std.proofs.Common.{ap, false, get_or, length, List, nat_eq, refl, slice_set, sym, []}
use Rattle.std.proofs.{Common.{◌∙◌, ◌∷◌, ◌≡◌}, lemmas.{Bool.eqb-true, List.nil_from_length}}
use Rattle.frame_header.specs.Fields.{SlotFields}
use Rattle.slot_plan.specs.FreeBytes.{need_in_slot, needs_with_first_slot}
use Rattle.slot_plan.specs.declared.needs.Need.{Need}
use Rattle.seamless_edits.proofs.decided.put_slot.Goals as goal

set-first : (slot : SlotFields) (needs : List Need) (d : Need) → false ≡ nat_eq (length needs) 0
    → slice_set needs 0 (need_in_slot slot (get_or needs 0 d)) ≡ needs_with_first_slot slot needs
unfolding needs_with_first_slot
set-first slot [] d some = absurd cc
set-first slot (m ∷ needs) d some = refl

none-first : (slot : SlotFields) (needs : List Need) → needs ≡ []
    → needs ≡ needs_with_first_slot slot needs
unfolding needs_with_first_slot
none-first slot [] none = refl
none-first slot (n ∷ needs) none = absurd cc

pub returns-then-not-is_empty : goal.returns-then-not-is_empty
returns-then-not-is_empty c =
    let needs = c.args.needs.now in
    ap (λ (x : Need). slice_set needs 0 x) (λ i. record {
      header = record (ap (λ (x : Need). x.header) c.first.view_is i) { slot = c.args.slot };
      bytes = ap (λ (x : Need). x.bytes) c.first.view_is i;
    })
    ∙ set-first c.args.slot needs c.index-needs-0.result c.if-not-is_empty.ensures

pub returns-else-not-is_empty : goal.returns-else-not-is_empty
returns-else-not-is_empty c =
    let needs = c.args.needs.now in
    none-first c.args.slot needs
    (nil_from_length needs (eqb-true (length needs) 0 (sym c.if-not-is_empty.ensures)))
