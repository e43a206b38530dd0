-- Laws of the slots in which frames stay, whatever the code: which frames keep theirs, and where
-- lead-ins stand.
use Rattle.std.specs.Prelude.{Contains, false, List, Ok, true, ℕ, [], ◌++◌, ◌∷◌, ◌≡◌, ◌≤◌, ◌⊎◌}
use Rattle.commands.specs.SingleOutput.{most_frames}
use Rattle.cut_edits.specs.Exact.{survey_without_head}
use Rattle.exact_span.specs.declared.exact_place.ExactPlace.{ExactPlace}
use Rattle.frame_header.specs.{Fields.SlotFields, Slots.all_slots, Tables.window_of}
use Rattle.remove_edits.specs.Removed.{items_left, part_needs_of, parts_left, removal_plan}
use Rattle.seam_plan.specs.{PartSplices.item_needs, declared.stretches.Part.Part}
use Rattle.slot_plan.specs.{FreeBytes.{FitsBehind, need_in_slot}, Parts.own_slot_area}
use Rattle.slot_plan.specs.declared.needs.{Need.Need, Placed.Placed}
use Rattle.sync_survey.specs.{Faults.SurveyFields, Survey.survey_of}

-- ---- the places of one part

-- the places of frames with these needs, each in the slot that it has in the file
abbrev pub AreOwnPlaces : List Need → List Placed → Type 0
AreOwnPlaces [] [] = Unit {0}
AreOwnPlaces (need ∷ needs) (p ∷ placed) =
    (p.lead_in ≡ false) × (p.slot ≡ need.header.slot) × AreOwnPlaces needs placed
AreOwnPlaces _ _ = ⊥

-- the places of a part that joins what is before it: the first frame is in its own slot or in a
-- greater one, and all others are in their own
abbrev pub AreJoinedPlaces : List Need → List Placed → Type 0
AreJoinedPlaces (first ∷ needs) (p ∷ placed) =
    (p.lead_in ≡ false) × (own_slot_area first ≤ own_slot_area (need_in_slot p.slot first))
    × AreOwnPlaces needs placed
AreJoinedPlaces _ _ = ⊥

-- frames don't fit behind a splice with these needs, whichever
-- slot the first of them has, its own or a greater one
abbrev pub FitInNoSlot : ℕ → List Need → List Need → Type 0
FitInNoSlot window splice [] = ⊥
FitInNoSlot window splice (first ∷ needs) =
    (slot : SlotFields) → Contains all_slots slot
    → own_slot_area first ≤ own_slot_area (need_in_slot slot first)
    → FitsBehind window window (splice ++ need_in_slot slot first ∷ needs) → ⊥

-- the places of a part that can't join the splice before
-- it: one lead-in, and then all frames in their own slots
abbrev pub AreLedPlaces : ℕ → List Need → List Need → List Placed → Type 0
AreLedPlaces window splice needs [] = ⊥
AreLedPlaces window splice needs (lead_in ∷ placed) =
    (lead_in.lead_in ≡ true) × FitInNoSlot window splice needs × AreOwnPlaces needs placed

-- ---- all parts

-- the place of at most one lead-in
abbrev pub AreLeadInPlaces : List Placed → Type 0
AreLeadInPlaces [] = Unit {0}
AreLeadInPlaces (p ∷ []) = p.lead_in ≡ true
AreLeadInPlaces _ = ⊥

-- the needs of all that is written of these parts, lead-ins between them included
abbrev pub needs_written : SurveyFields → List Part → List Need
needs_written s parts = item_needs (items_left s parts)

-- the places of a part behind these others, and then the rest of the places
pub record ArePartPlaces (s : SurveyFields) (before : List Part) (part : Part)
    (placed own rest : List Placed) : Type 0 where
  pub are : placed ≡ own ++ rest
  pub stand : AreJoinedPlaces (part_needs_of s part) own
      ⊎ AreLedPlaces (window_of s.class.version) (needs_written s before) (part_needs_of s part) own

-- the places of later parts, one part after another
abbrev pub AreLaterPlaces : SurveyFields → List Part → List Part → List Placed → Type 0
AreLaterPlaces s before [] placed = placed ≡ []
AreLaterPlaces s before (part ∷ parts) placed =
    (own : List Placed) × (rest : List Placed) × ArePartPlaces s before part placed own rest
    × AreLaterPlaces s (before ++ part ∷ []) parts rest

-- the plan of parts: at most one lead-in before all, the frames of the first part in their own
-- slots, and the places of the later parts
pub record KeepTheirSlots (s : SurveyFields) (first : Part) (later : List Part) : Type 0 where
  pub front : List Placed
  pub own : List Placed
  pub rest : List Placed
  pub are : removal_plan s (first ∷ later) ≡ front ++ own ++ rest
  pub lead_in : AreLeadInPlaces front
  pub frames : AreOwnPlaces (part_needs_of s first) own
  pub others : AreLaterPlaces s (first ∷ []) later rest

-- this holds of the parts that `remove` leaves of each file that it accepts
abbrev pub FramesKeepTheirSlots : Type 0
FramesKeepTheirSlots =
    (stretches : List (ExactPlace × ExactPlace)) (file : List ℕ) (s : SurveyFields) (first : Part)
    (later : List Part) → survey_of file most_frames ≡ Ok s
    → parts_left stretches s ≡ Ok (first ∷ later)
    → KeepTheirSlots (survey_without_head s) first later
