-- The shortest packing: of the lists that have a layout, the one with
-- the least sum of areas, and of several the lexicographically least.
use Rattle.std.specs.Prelude.{Bool, false, List, map, sum, true, ℕ, [], ◌↔◌, ◌∷◌, ◌≡◌, ◌≤◌}
use Rattle.frame_header.specs.{Fields.{HeaderFields, SlotFields}, Slots.all_slots, Tables.class_of}
use Rattle.slot_plan.specs.Layouts.{begins_of, HasLayout}
use Rattle.slot_plan.specs.Lists.{AreChosenAreas, CanBeLaid, frames_with_areas, IsNotBehind}
use Rattle.slot_plan.specs.{Lists.OpenFrame, Parts.{lead_in_item, need_item, open_frame, PlanItem}}
use Rattle.slot_plan.specs.{Plans.{AreItemSlots, item_areas}, declared.needs.Need.Need}
use Rattle.slot_plan.specs.declared.needs.Placed.{Placed}

-- Among the choices that have a layout after `free` free bytes, the
-- list with the least sum, and the lexicographically least of these.
pub record IsShortestList (window free : ℕ) (opens : List OpenFrame) (areas : List ℕ) : Type 0 where
  pub chosen : AreChosenAreas opens areas
  pub feasible : HasLayout window free (frames_with_areas opens areas)
  pub shortest : (others : List ℕ) → AreChosenAreas opens others
      → HasLayout window free (frames_with_areas opens others) → sum areas ≤ sum others
  pub first : (others : List ℕ) → AreChosenAreas opens others
      → HasLayout window free (frames_with_areas opens others) → sum others ≡ sum areas
      → IsNotBehind areas others

-- these items in the slots of the best list, their main data as early as they may be
pub record IsBestPlanFor (window free : ℕ) (items : List PlanItem)
    (placed : List Placed) : Type 0 where
  pub slots : AreItemSlots items placed
  pub best : IsShortestList window free (map open_frame items) (item_areas items placed)
  pub begins : map (λ p. p.begin) placed
      ≡ begins_of window 0 free (frames_with_areas (map open_frame items) (item_areas items placed))

-- the frames of a part, after a lead-in of any slot if there is one
unfoldable pub items_with_lead_in : Bool → (HeaderFields → List SlotFields) → List Need
    → List PlanItem
items_with_lead_in false choices needs = map (need_item choices) needs
items_with_lead_in true choices [] = []
items_with_lead_in true choices (first ∷ needs) =
    lead_in_item (class_of first.header) all_slots ∷ map (need_item choices) (first ∷ needs)

-- The best plan of a part: it has a lead-in exactly if its frames have
-- no layout without one, and is the shortest list with or without it.
pub record IsBestPlan (window : ℕ) (choices : HeaderFields → List SlotFields) (needs : List Need)
    (placed : List Placed) : Type 0 where
  pub lead_in : Bool
  pub without : (lead_in ≡ false)
      ↔ CanBeLaid window (map open_frame (map (need_item choices) needs))
  pub whole : IsBestPlanFor window 0 (items_with_lead_in lead_in choices needs) placed
