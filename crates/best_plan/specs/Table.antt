-- The rows of all frames, and what is placed by them.
use Rattle.std.specs.Prelude.{All, AllPairs, Contains, false, length, List, map, slice_index, true}
use Rattle.std.specs.Prelude.{ℕ, [], ◌++◌, ◌+◌, ◌<◌, ◌∷◌, ◌≡◌, ◌≤◌}
use Rattle.best_plan.specs.{Best.IsBestPlanFor, Rows.{IsAreaChoice, IsRow, nothing}}
use Rattle.frame_header.specs.Fields.{ClassFields, HeaderFields, SlotFields}
use Rattle.frame_header.specs.{Limits.most_frame_length, Slots.all_slots, Tables.area_of}
use Rattle.slot_plan.specs.Parts.{item_area, need_item, open_frame, own_slot_area, slot_areas}
use Rattle.slot_plan.specs.declared.needs.{Need.Need, Placed.Placed}

-- the areas among which a frame chooses
abbrev pub need_areas : (HeaderFields → List SlotFields) → Need → List ℕ
need_areas choices need = (open_frame (need_item choices need)).areas

-- these are the areas among which a frame chooses
pub record AreAreasOf (choices : HeaderFields → List SlotFields) (need : Need)
    (items : List ℕ) : Type 0 where
  pub areas : items ≡ need_areas choices need
  pub most : All (λ n. n ≤ most_frame_length) items
  -- the area of its own slot is one of them
  pub own : Contains (need_areas choices need) (own_slot_area need)
  pub ascending : AllPairs (λ m n. m < n) (need_areas choices need)

-- a frame in the slot at this place of its choices, which ascend
pub record IsFrameAt (choices : HeaderFields → List SlotFields) (need : Need) (place free : ℕ)
    (p : Placed) : Type 0 where
  pub frame : p.lead_in ≡ false
  pub begin : p.begin ≡ free
  pub chosen : Contains (choices need.header) p.slot
  pub area : item_area (need_item choices need) p.slot ≡ slice_index (need_areas choices need) place
  pub ascending : AllPairs (λ m n. m < n) (need_areas choices need)

-- the row of a frame, which comes before the rows of the frames after it
pub record IsRowBefore (window : ℕ) (choices : HeaderFields → List SlotFields) (need : Need)
    (IsBehind : List ℕ → List ℕ → Type 0) (sums places : List ℕ) : Type 0 where
  pub later : List ℕ
  pub before : List ℕ
  pub cells : List ℕ
  pub behind : IsBehind later before
  pub appended : places ≡ before ++ cells
  pub row : IsRow window need.bytes (need_areas choices need) later sums cells
  pub most : All (λ n. n ≤ most_frame_length) (need_areas choices need)
  pub own : Contains (need_areas choices need) (own_slot_area need)

-- after the last frame there are no areas
pub record IsTableEnd (window : ℕ) (sums places : List ℕ) : Type 0 where
  pub width : length sums ≡ window + 1
  pub zeros : (free : ℕ) → free ≤ window → slice_index sums free ≡ 0
  pub none : places ≡ []

-- the least sums before the first frame, and the places of all frames, the last frame's first
unfoldable pub IsTable : ℕ → (HeaderFields → List SlotFields) → List Need → List ℕ → List ℕ → Type 0
IsTable window choices [] sums places = IsTableEnd window sums places
IsTable window choices (need ∷ needs) sums places =
    IsRowBefore window choices need (IsTable window choices needs) sums places

-- some list fits after `free` free bytes, by the table
pub record CanWalkTable (window : ℕ) (choices : HeaderFields → List SlotFields) (free : ℕ)
    (needs : List Need) (places : List ℕ) : Type 0 where
  pub sums : List ℕ
  pub table : IsTable window choices needs sums places
  pub some : slice_index sums free < nothing

-- the frames were placed after what was placed before
pub record WalksTable (window : ℕ) (choices : HeaderFields → List SlotFields) (free : ℕ)
    (needs : List Need) (old new : List Placed) : Type 0 where
  pub more : List Placed
  pub appended : new ≡ old ++ more
  pub best : IsBestPlanFor window free (map (need_item choices) needs) more

-- the lead-in that the least sums from the first frame on give
pub record IsLeadInOfSums (window : ℕ) (class : ClassFields) (sums : List ℕ)
    (p : Placed) : Type 0 where
  pub cost : ℕ
  pub place : ℕ
  pub choice : IsAreaChoice window 0 0 (slot_areas class false all_slots) sums cost place
  pub some : cost < nothing
  pub area : area_of class p.slot false ≡ slice_index (slot_areas class false all_slots) place
  pub chosen : Contains all_slots p.slot
  pub ascending : AllPairs (λ m n. m < n) (slot_areas class false all_slots)
  pub lead_in : p.lead_in ≡ true
  pub begin : p.begin ≡ 0
