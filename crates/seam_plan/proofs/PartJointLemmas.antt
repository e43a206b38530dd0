-- How a part joins a splice, by what this leaves.
use Rattle.std.proofs.Common.{ap, ap₂, arith, false, List, map, None, Option, option_to_list, refl}
use Rattle.std.proofs.Common.{Some, subst, sym, ℕ, [], ◌++◌, ◌∙◌, ◌∷◌, ◌≡◌, ◌≤◌}
use Rattle.std.specs.Prelude.{option_map}
use Rattle.frame_header.specs.Fields.{ClassFields, HeaderFields, IsClass, SlotFields}
use Rattle.frame_header.specs.Tables.{area_of, class_of, window_of}
use Rattle.seam_plan.proofs.{JoinLemmas.{join-found, join-none}, LeadInLemmas.lead-in-is}
use Rattle.seam_plan.specs.{Frames.needs_of, Joins.{frame_in_slot, join_slot, joining_frames}}
use Rattle.seam_plan.specs.PartSplices.{bare_frames, frame_item, IsPartJoint, IsPartNeeds}
use Rattle.seam_plan.specs.PartSplices.{item_needs, joined_items, joint_items, lead_in_splice_item}
use Rattle.seam_plan.specs.PartSplices.{led_splice_items, splice_part_items, SpliceItem}
use Rattle.seam_plan.specs.declared.parts.PartJoint.TheVariants.{InSlot, Led}
use Rattle.slot_plan.proofs.FreeByteLemmas.{cons-fits, more-behind}
use Rattle.slot_plan.specs.FreeBytes.{FitsBehind, IsJoinSlot, IsLeadInHeader, IsMostLeft}
use Rattle.slot_plan.specs.FreeBytes.{need_in_slot, needs_with_first_slot}
use Rattle.slot_plan.specs.{Parts.{AreNeedsOfClass, own_slot_area}, declared.needs.Need.Need}

-- ---- frames and items

-- frames without sounds need what they were made of
pub needs-bare : (needs : List Need) → needs_of (bare_frames needs) ≡ needs
needs-bare [] = refl
needs-bare (need ∷ needs) = ap (λ l. need ∷ l) (needs-bare needs)

-- frames as items need what they need
pub needs-items : (needs : List Need) → item_needs (map frame_item needs) ≡ needs
needs-items [] = refl
needs-items (need ∷ needs) = ap (λ l. need ∷ l) (needs-items needs)

-- the items of a part whose first frame joins in a slot, if there is one
abbrev pub joined_in : ℕ → Need → List Need → Option SlotFields → List SpliceItem
joined_in window first needs None = led_splice_items window (first ∷ needs)
joined_in window first needs (Some slot) = map frame_item (need_in_slot slot first ∷ needs)

bare-joined : (window : ℕ) (first : Need) (needs : List Need) (o : Option SlotFields)
    → joined_items window (first ∷ needs) (option_map
    (λ slot. frame_in_slot slot (record { need = first; sound = [] }) ∷ bare_frames needs) o)
    ≡ joined_in window first needs o
bare-joined window first needs None = refl
bare-joined window first needs (Some slot) =
    ap (λ l. map frame_item (need_in_slot slot first ∷ l)) (needs-bare needs)

-- the items of a part are decided by the slot in which its first frame joins
pub splice_part_items-is : (window : ℕ) (splice : List Need) (first : Need) (needs : List Need)
    → splice_part_items window splice (first ∷ needs)
    ≡ joined_in window first needs (join_slot window splice first needs)
unfolding joining_frames
splice_part_items-is window splice first needs =
    bare-joined window first needs
    (join_slot window (needs_of (bare_frames splice)) first (needs_of (bare_frames needs)))
    ∙ ap₂ (λ r n. joined_in window first needs (join_slot window r first n)) (needs-bare splice)
    (needs-bare needs)

-- ---- how a part joins

-- a frame of a class of the standard has such a class
pub first-known : (class : ClassFields) (first : Need) (needs : List Need)
    → AreNeedsOfClass class (first ∷ needs) → IsClass class → IsClass (class_of first.header)
unfolding AreNeedsOfClass
first-known class first needs same known = grind arith

module _ (class : ClassFields) {left : ℕ} {splice : List Need} (known : IsClass class)
    (is : IsMostLeft (window_of class.version) (window_of class.version) splice left) where
  -- a part whose first frame joins in a slot is its frames with the first in this slot
  pub in-slot-items : (needs : List Need) (slot : SlotFields) → AreNeedsOfClass class needs
      → IsJoinSlot (window_of class.version) left needs (Some slot)
      → splice_part_items (window_of class.version) splice needs ≡ joint_items (InSlot slot) needs
  unfolding IsJoinSlot needs_with_first_slot
  in-slot-items [] slot same joins = absurd joins
  in-slot-items (first ∷ needs) slot same joins =
      let window : ℕ = window_of class.version in
      splice_part_items-is window splice first needs
      ∙ ap (joined_in window first needs)
      (join-found is first needs
      (first-known class first needs same known) joins)

  -- a part whose frames can't join comes behind its lead-in
  pub led-part-items : (needs : List Need) {header : HeaderFields} → AreNeedsOfClass class needs
      → IsJoinSlot (window_of class.version) left needs None
      → IsLeadInHeader (window_of class.version) needs header
      → splice_part_items (window_of class.version) splice needs ≡ joint_items (Led header) needs
  unfolding IsJoinSlot
  led-part-items [] same none leads = absurd none
  led-part-items (first ∷ needs) {header} same none leads =
      let window : ℕ = window_of class.version in
      let first_known = first-known class first needs same known in
      splice_part_items-is window splice first needs
      ∙ ap (joined_in window first needs)
      (join-none is first needs first_known none)
      ∙ ap (λ o. option_to_list (option_map lead_in_splice_item o)
      ++ map frame_item (first ∷ needs))
      (lead-in-is window first needs first_known leads)

-- ---- whatever the splice is

-- frames that fit after the area of a lead-in fit after bytes and the lead-in
pub lead-fits : {window left : ℕ} (lead : Need) (needs : List Need) → left ≤ window
    → lead.bytes ≡ 0 → FitsBehind window (own_slot_area lead) needs
    → FitsBehind window window needs → FitsBehind window left (lead ∷ needs)
lead-fits lead needs within none fits all = grind (arith, cons-fits, more-behind, within)

-- a part whose first frame joins in a slot fits after what the splice leaves
pub in-slot-joint : {class : ClassFields} {left : ℕ} (needs : List Need) {slot : SlotFields}
    → IsJoinSlot (window_of class.version) left needs (Some slot)
    → IsPartJoint class left needs (InSlot slot)
unfolding IsJoinSlot needs_with_first_slot
in-slot-joint [] joins = absurd joins
in-slot-joint {class} {left} (first ∷ needs) {slot} joins = record {
  own = joins.joins.chosen;
  fits = subst (FitsBehind (window_of class.version) left)
      (sym (needs-items (need_in_slot slot first ∷ needs))) joins.joins.fits;
}

-- a part behind its lead-in fits after what any splice leaves
pub led-joint : {class : ClassFields} {left : ℕ} (needs : List Need) {header : HeaderFields}
    → left ≤ window_of class.version → IsPartNeeds class needs
    → IsLeadInHeader (window_of class.version) needs header
    → IsPartJoint class left needs (Led header)
unfolding IsLeadInHeader
led-joint [] within part leads = absurd leads
led-joint {class} {left} (first ∷ needs) {header} within part leads =
    let window : ℕ = window_of class.version in
    let lead : Need = record { header = header; bytes = 0 } in
    let area : area_of (class_of first.header) header.slot false ≡ own_slot_area lead =
    grind arith in
    record {
      own = (leads.1, leads.0.chosen);
      fits = subst (FitsBehind window left) (sym (needs-items (lead ∷ first ∷ needs)))
          (lead-fits lead (first ∷ needs) within refl
          (subst (λ n. FitsBehind window n (first ∷ needs)) area leads.0.fits) part.fits);
    }
