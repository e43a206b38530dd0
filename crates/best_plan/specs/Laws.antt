-- Laws of the best plan, whatever the code.
use Rattle.std.specs.Prelude.{false, List, None, Some, sum, ℕ, [], ◌↔◌, ◌∷◌, ◌≡◌, ◌≤◌}
use Rattle.best_plan.specs.{Best.{IsBestPlan, items_with_lead_in}, BestOf.best_plan_of}
use Rattle.frame_header.specs.Fields.{HeaderFields, SlotFields}
use Rattle.slot_plan.specs.{Laws.PartsChooseInOrder, Parts.all_items, Plans.{IsPlan, item_areas}}
use Rattle.slot_plan.specs.declared.needs.{Need.Need, Placed.Placed}

-- The best plan of a part has a lead-in exactly if its
-- plan has one, and at most as many bytes of areas.
abbrev pub BestIsShortest : Type 0
BestIsShortest =
    (window : ℕ) (choices : HeaderFields → List SlotFields) (needs : List Need)
    (placed best : List Placed) (plan : IsPlan window choices (needs ∷ []) placed)
    (is : IsBestPlan window choices needs best)
    → ((is.lead_in ≡ false) ↔ (plan.lead_ins ≡ None ∷ []))
    × (sum (item_areas (items_with_lead_in is.lead_in choices needs) best)
    ≤ sum (item_areas (all_items choices (needs ∷ []) plan.lead_ins) placed))

-- If a part has a plan, it has a best plan.
abbrev pub BestExists : Type 0
BestExists =
    (window : ℕ) (choices : HeaderFields → List SlotFields) (needs : List Need)
    (placed : List Placed) → IsPlan window choices (needs ∷ []) placed
    → (best : List Placed) × (best_plan_of window choices needs ≡ Some best)

-- The best plan of a part whose frames choose among ascending areas is the value of the function.
abbrev pub BestPlanIsCheapest : Type 0
BestPlanIsCheapest =
    (window : ℕ) (choices : HeaderFields → List SlotFields) (needs : List Need)
    (placed : List Placed) → PartsChooseInOrder choices (needs ∷ [])
    → IsBestPlan window choices needs placed ↔ (best_plan_of window choices needs ≡ Some placed)
