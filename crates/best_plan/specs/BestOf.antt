-- The best plan as a value: of all lists of slots for which there is
-- a layout, their main data as early as they may be, the one with the
-- least sum of areas, and of several the lexicographically least.
use Rattle.std.specs.Prelude.{Bool, false, filter, if◌then◌else◌, List, ltb, map, None, Option}
use Rattle.std.specs.Prelude.{Some, sum, true, ℕ, [], ◌&&◌, ◌==◌, ◌||◌, ◌∷◌}
use Rattle.best_plan.specs.Best.{items_with_lead_in}
use Rattle.frame_header.specs.Fields.{HeaderFields, SlotFields}
use Rattle.slot_plan.specs.Layouts.{has_layout}
use Rattle.slot_plan.specs.LeastPlan.{all_lists, earliest_placement, frames_in_slots}
use Rattle.slot_plan.specs.{Parts.PlanItem, Plans.item_areas, declared.needs.Need.Need}
use Rattle.slot_plan.specs.declared.needs.Placed.{Placed}

-- all lists of slots for which there is a layout, with main data as early as they may be
abbrev pub plans_of : ℕ → List PlanItem → List (List Placed)
plans_of window items = map (earliest_placement window items)
    (filter (λ slots. has_layout window 0 0 (frames_in_slots items slots)) (all_lists items))

-- in lexicographic order, the first list comes before the second
unfoldable pub comes_before : List ℕ → List ℕ → Bool
comes_before [] [] = false
comes_before [] (n ∷ ns) = true
comes_before (m ∷ ms) [] = false
comes_before (m ∷ ms) (n ∷ ns) = ltb m n || ((m == n) && comes_before ms ns)

-- what a plan costs: first the sum of areas, and then the areas in order
abbrev pub cost_of : List PlanItem → List Placed → List ℕ
cost_of items placed = sum (item_areas items placed) ∷ item_areas items placed

-- of two plans, if there is another, the one that costs less
abbrev pub better_plan : List PlanItem → List Placed → Option (List Placed) → List Placed
better_plan items placed None = placed
better_plan items placed (Some other) =
    if comes_before (cost_of items other) (cost_of items placed) then other else placed

-- the plan that costs least
unfoldable pub cheapest_plan : List PlanItem → List (List Placed) → Option (List Placed)
cheapest_plan items [] = None
cheapest_plan items (placed ∷ plans) = Some (better_plan items placed (cheapest_plan items plans))

-- the best plan of these items, if there is one
abbrev pub best_placement : ℕ → List PlanItem → Option (List Placed)
best_placement window items = cheapest_plan items (plans_of window items)

-- the first of the two plans that is there
abbrev pub first_plan_of_two : Option (List Placed) → Option (List Placed) → Option (List Placed)
first_plan_of_two (Some placed) behind = Some placed
first_plan_of_two None behind = behind

-- the best plan of a part: the one without a lead-in
-- if there is one, otherwise the one after a lead-in
abbrev pub best_plan_of : ℕ → (HeaderFields → List SlotFields) → List Need → Option (List Placed)
best_plan_of window choices needs =
    first_plan_of_two (best_placement window (items_with_lead_in false choices needs))
    (best_placement window (items_with_lead_in true choices needs))
