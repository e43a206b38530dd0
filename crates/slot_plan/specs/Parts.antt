-- The frames of each part, with the slots among which they choose, and the lead-in of a part.
use Rattle.std.specs.Prelude.{All, AllPairs, Bool, Contains, false, length, List, map, None, Option}
use Rattle.std.specs.Prelude.{slice_index, slice_range, Some, true, ℕ, [], ◌++◌, ◌<◌, ◌∷◌, ◌≡◌, ◌≤◌}
use Rattle.frame_header.specs.{Fields.{ClassFields, HeaderFields, SlotFields}, Slots.all_slots}
use Rattle.frame_header.specs.Tables.{area_of, class_of, window_of}
use Rattle.slot_plan.specs.{Layouts.{FrameLengths, HasLayout}, Lists.{CanBeLaid, OpenFrame}}
use Rattle.slot_plan.specs.declared.needs.Need.{Need}

-- a frame or a lead-in of the output, whose slot isn't decided
pub record PlanItem : Type 0 where
  pub lead_in : Bool
  pub class : ClassFields
  pub protected : Bool
  pub bytes : ℕ
  pub choices : List SlotFields

-- the area of an item in this slot
abbrev pub item_area : PlanItem → SlotFields → ℕ
item_area item slot = area_of item.class slot item.protected

-- the areas of some slots
abbrev pub slot_areas : ClassFields → Bool → List SlotFields → List ℕ
slot_areas class protected slots = map (λ s. area_of class s protected) slots

-- the areas of the slots that a frame with this header may have
abbrev pub header_areas : (HeaderFields → List SlotFields) → HeaderFields → List ℕ
header_areas choices h = slot_areas (class_of h) h.protected (choices h)

-- at least one slot, their areas ascending
pub record AreRisingSlots (class : ClassFields) (protected : Bool)
    (slots : List SlotFields) : Type 0 where
  pub some : 1 ≤ length slots
  pub ascending : AllPairs (λ m n. m < n) (slot_areas class protected slots)

-- an item by its main data and the areas among which it chooses
abbrev pub open_frame : PlanItem → OpenFrame
open_frame item =
    record { bytes = item.bytes; areas = slot_areas item.class item.protected item.choices }

-- a frame with the choices of its header
abbrev pub need_item : (HeaderFields → List SlotFields) → Need → PlanItem
need_item choices need = record {
  lead_in = false;
  class = class_of need.header;
  protected = need.header.protected;
  bytes = need.bytes;
  choices = choices need.header;
}

-- a lead-in: no main data, no check word
abbrev pub lead_in_item : ClassFields → List SlotFields → PlanItem
lead_in_item class slots = record {
  lead_in = true;
  class = class;
  protected = false;
  bytes = 0;
  choices = slots;
}

-- the area of the frame's own slot
abbrev pub own_slot_area : Need → ℕ
own_slot_area need = area_of (class_of need.header) need.header.slot need.header.protected

-- a frame by its main data and the area of its own slot
abbrev pub own_frame : Need → FrameLengths
own_frame need = record { bytes = need.bytes; area = own_slot_area need }

-- each part has a layout in its own slots after a whole window of free bytes:
-- what a plan requires, besides limits on the numbers of frames and of parts
unfoldable pub ArePartsFeasible : ℕ → List (List Need) → Type 0
ArePartsFeasible window [] = Unit {0}
ArePartsFeasible window (part ∷ parts) =
    HasLayout window window (map own_frame part) × ArePartsFeasible window parts

-- all frames have this class
unfoldable pub AreNeedsOfClass : ClassFields → List Need → Type 0
AreNeedsOfClass class [] = Unit {0}
AreNeedsOfClass class (need ∷ needs) = (class_of need.header ≡ class) × AreNeedsOfClass class needs

-- all frames have the class of the first
abbrev pub AreNeedsOfOneClass : List Need → Type 0
AreNeedsOfOneClass [] = Unit {0}
AreNeedsOfOneClass (first ∷ needs) = AreNeedsOfClass (class_of first.header) needs

-- the window of the first frame; where frames are of one class, the window of all
abbrev pub window_in : List Need → ℕ
window_in [] = 0
window_in (first ∷ needs) = window_of first.header.version

-- the needs from each part's place to the next part's, and from the last place to the end
unfoldable pub needs_in_parts : List Need → List ℕ → List (List Need)
needs_in_parts needs [] = []
needs_in_parts needs (from ∷ []) = slice_range needs from (length needs) ∷ []
needs_in_parts needs (from ∷ to ∷ places) =
    slice_range needs from to ∷ needs_in_parts needs (to ∷ places)

-- parts that can be planned: the needs of their frames,
-- and the place among these of each part's first frame
pub record CanBePlanned (needs : List Need) (places : List ℕ) : Type 0 where
  -- all frames are of one class
  pub class : AreNeedsOfOneClass needs
  -- there is a part
  pub some : 1 ≤ length places
  -- the first part begins with the first frame
  pub first : slice_index places 0 ≡ 0
  -- each part begins after the one before
  pub ascending : AllPairs (λ m n. m < n) places
  -- each part begins with a frame
  pub within : All (λ place. place < length needs) places
  -- each part has a layout in its own slots after a whole window
  pub feasible : ArePartsFeasible (window_in needs) (needs_in_parts needs places)

-- a part's frames, after its lead-in if it has one
unfoldable pub part_items : (HeaderFields → List SlotFields) → List Need → Option SlotFields
    → List PlanItem
part_items choices part None = map (need_item choices) part
part_items choices [] (Some slot) = []
part_items choices (first ∷ part) (Some slot) =
    lead_in_item (class_of first.header) (slot ∷ []) ∷ map (need_item choices) (first ∷ part)

-- a part's frames after one lead-in, which may have any slot
unfoldable pub led_items : (HeaderFields → List SlotFields) → List Need → List PlanItem
led_items choices [] = []
led_items choices (first ∷ part) =
    lead_in_item (class_of first.header) all_slots ∷ map (need_item choices) (first ∷ part)

-- The lead-in of a part alone: none if its frames have a layout without
-- one, otherwise the one with the smallest area after which they have one.
unfoldable pub IsLeadIn : ℕ → (HeaderFields → List SlotFields) → List Need → Option SlotFields
    → Type 0
IsLeadIn window choices part None = CanBeLaid window (map open_frame (part_items choices part None))
IsLeadIn window choices [] (Some slot) = ⊥
IsLeadIn window choices (first ∷ part) (Some slot) =
    (CanBeLaid window (map open_frame (part_items choices (first ∷ part) None)) → ⊥)
    × CanBeLaid window (map open_frame (part_items choices (first ∷ part) (Some slot)))
    × Contains all_slots slot
    × ((other : SlotFields) → Contains all_slots other
    → area_of (class_of first.header) other false < area_of (class_of first.header) slot false
    → CanBeLaid window (map open_frame (part_items choices (first ∷ part) (Some other))) → ⊥)

-- each part has its lead-in
unfoldable pub AreLeadIns : ℕ → (HeaderFields → List SlotFields) → List (List Need)
    → List (Option SlotFields) → Type 0
AreLeadIns window choices [] [] = Unit {0}
AreLeadIns window choices [] (lead_in ∷ lead_ins) = ⊥
AreLeadIns window choices (part ∷ parts) [] = ⊥
AreLeadIns window choices (part ∷ parts) (lead_in ∷ lead_ins) =
    IsLeadIn window choices part lead_in × AreLeadIns window choices parts lead_ins

-- the frames of all parts, each after its lead-in
unfoldable pub all_items : (HeaderFields → List SlotFields) → List (List Need)
    → List (Option SlotFields) → List PlanItem
all_items choices [] lead_ins = []
all_items choices (part ∷ parts) [] = []
all_items choices (part ∷ parts) (lead_in ∷ lead_ins) =
    part_items choices part lead_in ++ all_items choices parts lead_ins
