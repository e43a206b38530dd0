-- How `plan` works: the bytes that have to be free before a frame, and the choice
-- by them. What the plan is doesn't depend on them (`Plans`, `LeastPlan`).
use Rattle.std.specs.Prelude.{Bool, Contains, false, length, List, map, max, None, Option, Some, ℕ}
use Rattle.std.specs.Prelude.{[], ◌++◌, ◌+◌, ◌-◌, ◌<◌, ◌∷◌, ◌≡◌, ◌≤◌}
use Rattle.frame_header.specs.{Fields.{ClassFields, HeaderFields, SlotFields}, Limits.most_back}
use Rattle.frame_header.specs.Tables.{area_of, class_of}
use Rattle.slot_plan.specs.Layouts.{FrameLengths, HasLayout}
use Rattle.slot_plan.specs.Lists.{AreChosenAreas, CanBeLaid, OpenFrame}
use Rattle.slot_plan.specs.Parts.{header_areas, item_area, need_item, open_frame, part_items}
use Rattle.slot_plan.specs.{Parts.{PlanItem, slot_areas}, SlotTables.IsTableForNeeds}
use Rattle.slot_plan.specs.declared.{needs.{Need.Need, Placed.Placed}, placing.Room.Room}
use Rattle.slot_plan.specs.declared.{reserves.Reserves.Reserves, table.SlotTable.SlotTable}

-- the greatest number of a list
unfoldable pub greatest_number : List ℕ → ℕ
greatest_number [] = 0
greatest_number (n ∷ ns) = max n (greatest_number ns)

-- the smallest number of free bytes before the frames with which they all have a layout
unfoldable pub reserve_before : List OpenFrame → ℕ
reserve_before [] = 0
reserve_before (o ∷ opens) = (o.bytes + reserve_before opens) - greatest_number o.areas

-- what is needed after each frame, the last frame's first
unfoldable pub reserves_behind : List OpenFrame → List ℕ
reserves_behind [] = []
reserves_behind (o ∷ opens) = reserves_behind opens ++ reserve_before opens ∷ []

-- the free bytes after a frame: what it leaves, but at most the window
abbrev pub free_bytes_behind : ℕ → ℕ → ℕ → ℕ → ℕ
free_bytes_behind window free bytes area = let left = (free + area) - bytes in
    left - (left - window)

-- of some slots, the one with the smallest area of at least `wanted` bytes
pub record IsLeastSlot (wanted : ℕ) (class : ClassFields) (protected : Bool)
    (slots : List SlotFields) (slot : SlotFields) : Type 0 where
  pub chosen : Contains slots slot
  pub enough : wanted ≤ area_of class slot protected
  pub least : (other : SlotFields) → Contains slots other → wanted ≤ area_of class other protected
      → area_of class slot protected ≤ area_of class other protected

-- of the slots that a frame with this header may have, the
-- one with the smallest area of at least `wanted` bytes
abbrev pub IsLeastSlotFor : ℕ → (HeaderFields → List SlotFields) → HeaderFields → SlotFields
    → Type 0
IsLeastSlotFor wanted choices h slot = IsLeastSlot wanted (class_of h) h.protected (choices h) slot

-- the largest area that a frame with this header may have, whose own slot is one that it may have
pub record IsLargestAreaFor (choices : HeaderFields → List SlotFields) (h : HeaderFields)
    (area : ℕ) : Type 0 where
  pub largest : area ≡ greatest_number (header_areas choices h)
  pub own : Contains (choices h) h.slot

-- a frame, or a lead-in, is placed where `free` bytes are free,
-- in the slot with the smallest area of at least `wanted` bytes
pub record IsLeastPlacement (lead_in : Bool) (free wanted : ℕ) (class : ClassFields)
    (protected : Bool)
    (slots : List SlotFields) (p : Placed) : Type 0 where
  pub frame : p.lead_in ≡ lead_in
  pub begin : p.begin ≡ free
  pub least : IsLeastSlot wanted class protected slots p.slot

-- each frame has the smallest area that leaves what is needed after it
unfoldable pub AreItemsPlaced : ℕ → ℕ → List PlanItem → List Placed → Type 0
AreItemsPlaced window free [] [] = Unit {0}
AreItemsPlaced window free [] (p ∷ placed) = ⊥
AreItemsPlaced window free (item ∷ items) [] = ⊥
AreItemsPlaced window free (item ∷ items) (p ∷ placed) =
    (p.lead_in ≡ item.lead_in) × (p.begin ≡ free) × IsLeastSlot
    ((item.bytes + reserve_before (map open_frame items)) - free)
    item.class item.protected item.choices p.slot
    × AreItemsPlaced window
    (free_bytes_behind window free item.bytes (item_area item p.slot)) items placed

-- after each frame at most the window is needed
unfoldable pub AreReservesInWindow : ℕ → List OpenFrame → Type 0
AreReservesInWindow window [] = Unit {0}
AreReservesInWindow window (o ∷ opens) =
    (reserve_before opens ≤ window) × AreReservesInWindow window opens

-- the frames of a part with the choices of a policy
abbrev pub open_frames : (HeaderFields → List SlotFields) → List Need → List OpenFrame
open_frames choices part = map open_frame (map (need_item choices) part)

-- frames can be placed where `free` bytes are free, by
-- what is needed after each, the last frame's first
pub record CanBePlaced (window free : ℕ) (opens : List OpenFrame) (needs : List ℕ) : Type 0 where
  -- at most the window is free
  pub most : free ≤ window
  -- as much is free as the frames need
  pub enough : reserve_before opens ≤ free
  -- no frame needs more after it than the window
  pub within : AreReservesInWindow window opens
  -- `needs` is what the frames need after each of them
  pub behind : needs ≡ reserves_behind opens

-- the area of the own slot of a frame with this header
abbrev pub own_area_of : HeaderFields → ℕ
own_area_of h = area_of (class_of h) h.slot h.protected

-- a frame with an area by its header
abbrev pub area_by_header : (HeaderFields → ℕ) → Need → ℕ
area_by_header area need = area need.header

-- a need as a frame, with an area by its header
abbrev pub frame_by_header : (HeaderFields → ℕ) → Need → FrameLengths
frame_by_header area need = record { bytes = need.bytes; area = area need.header }

-- a part of frames of this class that can be placed after a lead-in with one of some slots
pub record IsPlaceablePart (window : ℕ) (class : ClassFields) (leads : List SlotFields)
    (area : HeaderFields → ℕ) (part : List Need) : Type 0 where
  -- it has a frame
  pub some : 0 < length part
  -- no window is larger
  pub most : window ≤ most_back
  -- with these areas its frames have a layout after the largest lead-in
  pub feasible : HasLayout window (greatest_number (slot_areas class false leads))
      (map (frame_by_header area) part)

-- A part can be placed in this room: the table has the slots of lead-ins in the frames'
-- class, the part can be placed after one of these, and no more than the window is free.
pub record CanPlacePart (room : Room) (leads : List SlotFields) (area : HeaderFields → ℕ)
    (needs : List Need) (slots : SlotTable) : Type 0 where
  pub table : IsTableForNeeds leads needs slots
  pub part : IsPlaceablePart room.window slots.lengths leads area needs
  pub free : room.free ≤ room.window

-- what the frames of a part need, if each may have one of these areas
pub record AreReserves (window : ℕ) (choices : HeaderFields → List SlotFields)
    (area : HeaderFields → ℕ) (part : List Need) (reserves : Reserves) : Type 0 where
  pub before : reserves.before ≡ reserve_before (open_frames choices part)
  pub behind : reserves.behind.items ≡ reserves_behind (open_frames choices part)
  pub most : reserves.before ≤ window
  pub within : AreReservesInWindow window (open_frames choices part)
  pub chosen : AreChosenAreas (open_frames choices part) (map (area_by_header area) part)

-- More frames were placed, from `free` free bytes before the first of `items` to
-- `after` before the first of those that are left. Whatever places the others
-- correctly from there on places, together with these frames, all of them correctly.
pub record PlacesMore (window free after : ℕ) (items left : List PlanItem)
    (old new : List Placed) : Type 0 where
  pub more : List Placed
  pub appended : new ≡ old ++ more
  pub goes : (rest : List PlanItem) (placed : List Placed)
      → reserve_before (map open_frame rest) ≡ 0 → AreItemsPlaced window after (left ++ rest) placed
      → AreItemsPlaced window free (items ++ rest) (more ++ placed)

-- The lead-in after which a part is placed: none if its frames have a layout without
-- one, otherwise the one of some slots with the smallest area that has what they need.
unfoldable pub IsPlacedLeadIn : ℕ → List SlotFields → (HeaderFields → List SlotFields)
    → List Need → Option SlotFields → Type 0
IsPlacedLeadIn window leads choices part None =
    CanBeLaid window (map open_frame (part_items choices part None))
IsPlacedLeadIn window leads choices [] (Some slot) = ⊥
IsPlacedLeadIn window leads choices (first ∷ part) (Some slot) =
    (0 < reserve_before (open_frames choices (first ∷ part)))
    × CanBeLaid window (map open_frame (part_items choices (first ∷ part) (Some slot)))
    × IsLeastSlot (reserve_before (open_frames choices (first ∷ part)))
    (class_of first.header) false leads slot

-- a part was placed after its lead-in, which has one of some slots
pub record PlacesPart (window : ℕ) (leads : List SlotFields)
    (choices : HeaderFields → List SlotFields) (part : List Need) (free after : ℕ)
    (old new : List Placed) : Type 0 where
  pub lead_in : Option SlotFields
  pub least : IsPlacedLeadIn window leads choices part lead_in
  pub places : PlacesMore window free after (part_items choices part lead_in) [] old new

-- the lead-in of some slots with the smallest area that has what the frames of a part need
unfoldable pub IsLeastLeadIn : List SlotFields → (HeaderFields → List SlotFields) → List Need
    → SlotFields → Type 0
IsLeastLeadIn leads choices [] slot = ⊥
IsLeastLeadIn leads choices (first ∷ part) slot =
    IsLeastSlot (reserve_before (open_frames choices (first ∷ part)))
    (class_of first.header) false leads slot

-- a part was placed after this lead-in, whether or not it needs one
pub record PlacesLedPart (window : ℕ) (leads : List SlotFields)
    (choices : HeaderFields → List SlotFields) (part : List Need) (free after : ℕ)
    (old new : List Placed) : Type 0 where
  pub slot : SlotFields
  pub least : IsLeastLeadIn leads choices part slot
  pub places : PlacesMore window free after (part_items choices part (Some slot)) [] old new
