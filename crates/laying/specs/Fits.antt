-- Which plans can be written frame by frame
-- (main_data_begin, ISO/IEC 11172-3 and 13818-3, 2.4.2.7).
use Rattle.std.specs.Prelude.{Bool, false, if◌then◌else◌, List, min, ℕ, [], ◌+◌, ◌-◌, ◌∷◌, ◌≤◌}
use Rattle.frame_header.specs.{Fields.IsSlot, Tables.{area_of, class_of}}
use Rattle.laying.specs.Relaid.{rest_behind}
use Rattle.slot_plan.specs.declared.needs.{Need.Need, Placed.Placed}

-- the length in bytes of the main data at a place of a
-- plan: what the next frame needs, or 0 for a lead-in
abbrev pub placed_bytes : Bool → Need → ℕ
placed_bytes lead_in need = if lead_in then 0 else need.bytes

-- the length in bytes of the area at that place; a lead-in has no check word
abbrev pub placed_area : Placed → Need → ℕ
placed_area p need =
    area_of (class_of need.header) p.slot (if p.lead_in then false else need.header.protected)

-- how many bytes before its own area the main data of the next frame may begin
abbrev pub reach_behind : ℕ → Placed → Need → ℕ
reach_behind window p need = min window (p.begin + placed_area p need - placed_bytes p.lead_in need)

-- If main data may begin at most `reach` bytes before the first area, there is
-- a place for each frame and for lead-ins before frames, and no other; each
-- main_data_begin is within reach, and no main data end after their own area.
unfoldable pub FitsFromReach : ℕ → ℕ → List Need → List Placed → Type 0
FitsFromReach window reach [] [] = Unit {0}
FitsFromReach window reach [] (p ∷ placed) = ⊥
FitsFromReach window reach (need ∷ needs) [] = ⊥
FitsFromReach window reach (need ∷ needs) (p ∷ placed) =
    (p.begin ≤ reach) × (placed_bytes p.lead_in need ≤ p.begin + placed_area p need)
    × FitsFromReach window (reach_behind window p need) (rest_behind p.lead_in need needs) placed

-- how many bytes before the next area main data may begin after all these places
unfoldable pub last_reach : ℕ → ℕ → List Need → List Placed → ℕ
last_reach window reach [] placed = reach
last_reach window reach (need ∷ needs) [] = reach
last_reach window reach (need ∷ needs) (p ∷ placed) =
    last_reach window (reach_behind window p need) (rest_behind p.lead_in need needs) placed

-- each place is in one of the 28 slots
abbrev pub AreInSlots : List Placed → Type 0
AreInSlots [] = Unit {0}
AreInSlots (p ∷ placed) = IsSlot p.slot × AreInSlots placed

-- a plan that can be written frame by frame, with no frames before it
pub record IsFittingPlan (window : ℕ) (needs : List Need) (placed : List Placed) : Type 0 where
  pub fits : FitsFromReach window 0 needs placed
  pub slots : AreInSlots placed
