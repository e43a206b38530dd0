-- Laws of plans, and of frames after free bytes, whatever the code.
use Rattle.std.specs.Prelude.{All, AllPairs, Contains, false, List, map, None, Some, ℕ, [], ◌++◌}
use Rattle.std.specs.Prelude.{◌<◌, ◌↔◌, ◌∷◌, ◌≡◌, ◌≤◌}
use Rattle.frame_header.specs.Fields.{ClassFields, HeaderFields, IsClass, SlotFields}
use Rattle.frame_header.specs.{Slots.all_slots, Tables.{area_of, class_of, window_of}}
use Rattle.slot_plan.specs.FreeBytes.{FitsBehind, IsLeastWanted, IsMostLeft}
use Rattle.slot_plan.specs.LeastPlan.{least_plan, led_plan}
use Rattle.slot_plan.specs.Lists.{CanBeLaid, IsLeastList, OpenFrame}
use Rattle.slot_plan.specs.Parts.{AreNeedsOfClass, ArePartsFeasible, IsLeadIn, lead_in_item}
use Rattle.slot_plan.specs.Parts.{need_item, needs_in_parts, open_frame, part_items, slot_areas}
use Rattle.slot_plan.specs.{Parts.window_in, Plans.{IsLedPlan, IsPlan}, declared.needs.Need.Need}
use Rattle.slot_plan.specs.declared.needs.Placed.{Placed}

-- a part's frames after one lead-in, which may have any slot
abbrev pub led_open_frames : (HeaderFields → List SlotFields) → Need → List Need → List OpenFrame
led_open_frames choices first part = map open_frame
    (lead_in_item (class_of first.header) all_slots ∷ map (need_item choices) (first ∷ part))

-- The lead-in of a part that has no layout without one is the first entry
-- of the lexicographically least list of its frames after one lead-in.
abbrev pub LeadInsComeFirst : Type 0
LeadInsComeFirst =
    (window : ℕ) (choices : HeaderFields → List SlotFields) (first : Need) (part : List Need)
    (slot : SlotFields)
    → (CanBeLaid window (map open_frame (part_items choices (first ∷ part) None)) → ⊥)
    → Contains all_slots slot
    → IsLeadIn window choices (first ∷ part) (Some slot) ↔ ((rest : List ℕ) × IsLeastList window
    (led_open_frames choices first part) (area_of (class_of first.header) slot false ∷ rest))

-- the areas among which the frame chooses ascend, its own slot is among them, and its
-- class is one of the standard's: what a policy's `choices` ensures of each header
pub record ChoosesInOrder (choices : HeaderFields → List SlotFields) (need : Need) : Type 0 where
  pub class : IsClass (class_of need.header)
  pub ascending : AllPairs (λ m n. m < n)
      (slot_areas (class_of need.header) need.header.protected (choices need.header))
  pub own : Contains (choices need.header) need.header.slot

-- each frame of each part chooses in order
abbrev pub PartsChooseInOrder : (HeaderFields → List SlotFields) → List (List Need) → Type 0
PartsChooseInOrder choices parts = All (λ part. All (ChoosesInOrder choices) part) parts

-- what the planner returns for parts
pub record IsPlanAnswer (choices : HeaderFields → List SlotFields) (needs : List Need)
    (places : List ℕ) (placed : List Placed) : Type 0 where
  -- the plan of the parts
  pub plan : IsPlan (window_in needs) choices (needs_in_parts needs places) placed
  -- where the areas among which each frame chooses ascend, it is the plan of the first list
  pub least : PartsChooseInOrder choices (needs_in_parts needs places)
      → placed ≡ least_plan (window_in needs) choices (needs_in_parts needs places)

-- what the planner returns for one part that is to have a lead-in
pub record IsLedPlanAnswer (choices : HeaderFields → List SlotFields) (needs : List Need)
    (placed : List Placed) : Type 0 where
  -- the led plan of the part
  pub plan : IsLedPlan (window_in needs) choices needs placed
  -- where the areas among which each frame chooses ascend, it is the plan of the first list
  pub least : PartsChooseInOrder choices (needs ∷ [])
      → placed ≡ led_plan (window_in needs) choices needs

-- parts have at most one plan
abbrev pub PlansAreUnique : Type 0
PlansAreUnique =
    (window : ℕ) (choices : HeaderFields → List SlotFields) (parts : List (List Need))
    (a b : List Placed) → PartsChooseInOrder choices parts → IsPlan window choices parts a
    → IsPlan window choices parts b → a ≡ b

-- parts of one class, each with a layout in its own slots,
-- have one plan, which is the plan of the first list
abbrev pub LeastPlanIsThePlan : Type 0
LeastPlanIsThePlan =
    (class : ClassFields) (choices : HeaderFields → List SlotFields) (parts : List (List Need))
    (placed : List Placed) → All (λ part. AreNeedsOfClass class part) parts
    → PartsChooseInOrder choices parts → ArePartsFeasible (window_of class.version) parts
    → IsPlan (window_of class.version) choices parts placed
    ↔ (placed ≡ least_plan (window_of class.version) choices parts)

-- a part of one class that has a layout in its own slots
-- has one led plan, which is the plan of the first list
abbrev pub LedPlanIsLeast : Type 0
LedPlanIsLeast =
    (class : ClassFields) (choices : HeaderFields → List SlotFields) (part : List Need)
    (placed : List Placed) → AreNeedsOfClass class part → PartsChooseInOrder choices (part ∷ [])
    → ArePartsFeasible (window_of class.version) (part ∷ [])
    → IsLedPlan (window_of class.version) choices part placed
    ↔ (placed ≡ led_plan (window_of class.version) choices part)

-- Frames and then others fit after some free bytes exactly if the
-- first do and what the others want is at most what the first leave.
abbrev pub FitsBehindWhatIsLeft : Type 0
FitsBehindWhatIsLeft =
    (window free : ℕ) (first others : List Need) → free ≤ window → FitsBehind window window others
    → FitsBehind window free (first ++ others)
    ↔ (FitsBehind window free first × ((left wanted : ℕ) → IsMostLeft window free first left
    → IsLeastWanted window others wanted → wanted ≤ left))

-- what frames and then others leave is what the others leave after what the first leave
abbrev pub LeavesGoOn : Type 0
LeavesGoOn =
    (window free mid left : ℕ) (first others : List Need) → free ≤ window
    → IsMostLeft window free first mid
    → IsMostLeft window free (first ++ others) left ↔ IsMostLeft window mid others left

-- frames fit after exactly the numbers of bytes that are at least what they want
abbrev pub FitsWhereWanted : Type 0
FitsWhereWanted = (window free wanted : ℕ) (needs : List Need) → IsLeastWanted window needs wanted
    → FitsBehind window free needs ↔ (wanted ≤ free)
