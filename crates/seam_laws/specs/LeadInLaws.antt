-- Laws of lead-ins, whatever the code: the plan of frames that need one, and of frames that keep
-- their slots.
use Rattle.std.specs.Prelude.{List, map, None, true, ℕ, [], ◌∷◌, ◌≡◌}
use Rattle.frame_header.specs.{Fields.{HeaderFields, SlotFields}, Tables.class_of}
use Rattle.slot_plan.specs.{FreeBytes.{FitsBehind, IsLeadInSlot}, Lists.CanBeLaid}
use Rattle.slot_plan.specs.Parts.{need_item, open_frame, part_items}
use Rattle.slot_plan.specs.{Plans.{AreItemSlots, IsLedPlan, IsPlan}, declared.needs.Need.Need}
use Rattle.slot_plan.specs.declared.needs.Placed.{Placed}

-- the plan of a part that has no layout without a lead-in is its led plan
abbrev pub LedWhereNeeded : Type 0
LedWhereNeeded =
    (window : ℕ) (choices : HeaderFields → List SlotFields) (part : List Need)
    (placed : List Placed) → (CanBeLaid window (map open_frame (part_items choices part None)) → ⊥)
    → IsPlan window choices (part ∷ []) placed → IsLedPlan window choices part placed

-- the frames of a plan, each in its own slot, without a lead-in
abbrev pub AreInOwnSlots : List Need → List Placed → Type 0
AreInOwnSlots needs placed = AreItemSlots (map (need_item (λ h. h.slot ∷ [])) needs) placed

-- the frames of a plan, each in its own slot, after their lead-in
unfoldable pub AreLedInOwnSlots : ℕ → List Need → List Placed → Type 0
AreLedInOwnSlots window [] placed = ⊥
AreLedInOwnSlots window (first ∷ needs) [] = ⊥
AreLedInOwnSlots window (first ∷ needs) (p ∷ placed) =
    (p.lead_in ≡ true) × IsLeadInSlot window (class_of first.header) (first ∷ needs) p.slot
    × AreInOwnSlots (first ∷ needs) placed

-- the plan of one part whose frames keep their slots has no
-- lead-in if they want nothing, and otherwise their lead-in
abbrev pub LeadInWhereWanted : Type 0
LeadInWhereWanted =
    (window : ℕ) (needs : List Need) (placed : List Placed)
    → IsPlan window (λ h. h.slot ∷ []) (needs ∷ []) placed
    → (FitsBehind window 0 needs → AreInOwnSlots needs placed)
    × ((FitsBehind window 0 needs → ⊥) → AreLedInOwnSlots window needs placed)
