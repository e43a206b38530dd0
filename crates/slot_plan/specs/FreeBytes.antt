-- Frames in their own slots after some free bytes: after how many they
-- fit, how many they leave, which lead-in goes before them, and in
-- which slot the first of them joins the frames that left these bytes.
use Rattle.std.specs.Prelude.{Contains, false, length, List, map, None, Option, Some, ℕ, [], ◌++◌}
use Rattle.std.specs.Prelude.{◌<◌, ◌∷◌, ◌≡◌, ◌≤◌}
use Rattle.frame_header.specs.{Fields.{ClassFields, HeaderFields, SlotFields}, Slots.all_slots}
use Rattle.frame_header.specs.Tables.{area_of, class_of, window_of}
use Rattle.slot_plan.specs.Layouts.{FrameLengths, HasLayout}
use Rattle.slot_plan.specs.Parts.{AreNeedsOfClass, own_frame, own_slot_area}
use Rattle.slot_plan.specs.declared.needs.Need.{Need}

-- frames, each in its own slot, have a layout after `free`
-- bytes of areas that hold nothing; an empty list always has one
abbrev pub FitsBehind : ℕ → ℕ → List Need → Type 0
FitsBehind window free needs = HasLayout window free (map own_frame needs)

-- frames of one class that fit after a whole window
pub record FitBehindWindow (needs : List Need) : Type 0 where
  pub class : ClassFields
  pub same : AreNeedsOfClass class needs
  pub fits : FitsBehind (window_of class.version) (window_of class.version) needs

-- frames of one class that fit after `free` bytes, which are at most the window
pub record FitBehindFree (free : ℕ) (needs : List Need) : Type 0 where
  pub class : ClassFields
  pub same : AreNeedsOfClass class needs
  pub within : free ≤ window_of class.version
  pub fits : FitsBehind (window_of class.version) free needs

-- the least number of bytes after which the frames fit
pub record IsLeastWanted (window : ℕ) (needs : List Need) (wanted : ℕ) : Type 0 where
  pub fits : FitsBehind window wanted needs
  pub least : (other : ℕ) → FitsBehind window other needs → wanted ≤ other

-- a frame with `bytes` bytes of main data, all of them before it, since it has no area
abbrev pub frame_without_area : ℕ → FrameLengths
frame_without_area bytes = record { bytes = bytes; area = 0 }

-- after `free` bytes the frames leave `left`: they have a layout together
-- with a frame after them that has `left` bytes of main data before it
abbrev pub LeavesFree : ℕ → ℕ → List Need → ℕ → Type 0
LeavesFree window free needs left =
    HasLayout window free (map own_frame needs ++ frame_without_area left ∷ [])

-- the most that the frames leave, which is at most the window
pub record IsMostLeft (window free : ℕ) (needs : List Need) (left : ℕ) : Type 0 where
  pub within : left ≤ window
  pub leaves : LeavesFree window free needs left
  pub greatest : (other : ℕ) → other ≤ window → LeavesFree window free needs other → other ≤ left

-- ---- a lead-in

-- the least slot of a lead-in, which has no check word, after whose area the frames fit
pub record IsLeadInSlot (window : ℕ) (class : ClassFields) (needs : List Need)
    (slot : SlotFields) : Type 0 where
  pub chosen : Contains all_slots slot
  pub fits : FitsBehind window (area_of class slot false) needs
  pub least : (other : SlotFields) → Contains all_slots other
      → FitsBehind window (area_of class other false) needs
      → area_of class slot false ≤ area_of class other false

-- the header of the lead-in: the first frame's header in the lead-in's slot, without a check word
unfoldable pub IsLeadInHeader : ℕ → List Need → HeaderFields → Type 0
IsLeadInHeader window [] header = ⊥
IsLeadInHeader window (first ∷ needs) header =
    IsLeadInSlot window (class_of first.header) (first ∷ needs) header.slot
    × (header ≡ record first.header { protected = false; slot = header.slot })

-- ---- frames that join others

-- a frame in another slot
abbrev pub need_in_slot : SlotFields → Need → Need
need_in_slot slot need = record { header = record need.header { slot = slot }; bytes = need.bytes }

-- the frames, with the first of them in another slot
unfoldable pub needs_with_first_slot : SlotFields → List Need → List Need
needs_with_first_slot slot [] = []
needs_with_first_slot slot (first ∷ needs) = need_in_slot slot first ∷ needs

-- Where others left `free` bytes, frames join in a slot of the first of
-- them: it is not less than the first frame's own, and they fit with it.
pub record JoinsInSlot (window free : ℕ) (first : Need) (needs : List Need)
    (slot : SlotFields) : Type 0 where
  pub chosen : Contains all_slots slot
  pub not_less : own_slot_area first ≤ own_slot_area (need_in_slot slot first)
  pub fits : FitsBehind window free (need_in_slot slot first ∷ needs)

-- the least slot in which the frames join
pub record JoinsInLeastSlot (window free : ℕ) (first : Need) (needs : List Need)
    (slot : SlotFields) : Type 0 where
  pub joins : JoinsInSlot window free first needs slot
  pub least : (other : SlotFields) → JoinsInSlot window free first needs other
      → own_slot_area (need_in_slot slot first) ≤ own_slot_area (need_in_slot other first)

-- frames for which `joins` can be called: there is one, they are of one
-- class, and they fit after a whole window, which is at least `free`
pub record CanJoinBehind (free : ℕ) (needs : List Need) : Type 0 where
  pub some : 0 < length needs
  pub class : ClassFields
  pub same : AreNeedsOfClass class needs
  pub within : free ≤ window_of class.version
  pub fits : FitsBehind (window_of class.version) (window_of class.version) needs

-- the least slot in which frames join, or `None` if there is no slot in which they do
unfoldable pub IsJoinSlot : ℕ → ℕ → List Need → Option SlotFields → Type 0
IsJoinSlot window free [] joined = ⊥
IsJoinSlot window free (first ∷ needs) (Some slot) = JoinsInLeastSlot window free first needs slot
IsJoinSlot window free (first ∷ needs) None =
    (slot : SlotFields) → JoinsInSlot window free first needs slot → ⊥
