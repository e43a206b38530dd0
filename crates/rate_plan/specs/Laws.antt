-- Laws of plans from a menu, whatever the code.
use Rattle.std.specs.Prelude.{All, Contains, Err, length, List, map, Ok, slice_range, ℕ, ◌<◌, ◌↔◌}
use Rattle.std.specs.Prelude.{◌≡◌, ◌≤◌}
use Rattle.frame_header.specs.Fields.{ClassFields, IsClass, IsSlot, SlotFields}
use Rattle.frame_header.specs.{Slots.{all_slots, largest_slot}, Tables.window_of}
use Rattle.rate_plan.specs.LeastMenuPlan.{least_menu_plan}
use Rattle.rate_plan.specs.Menus.{HasAscendingAreas, IsFirstUnfitFrame, IsMenuPlan}
use Rattle.slot_plan.specs.{Layouts.HasLayout, Parts.{AreNeedsOfClass, own_frame}}
use Rattle.slot_plan.specs.declared.needs.{Need.Need, Placed.Placed}

-- Frames of one class that have a layout in their own slots after
-- a whole window all fit, if the largest slot is in the menu.
abbrev pub LargestSlotFits : Type 0
LargestSlotFits =
    (class : ClassFields) (menu : List SlotFields) (needs : List Need) (i : ℕ) → IsClass class
    → AreNeedsOfClass class needs → All (λ need. IsSlot need.header.slot) needs
    → Contains menu largest_slot
    → HasLayout (window_of class.version) (window_of class.version) (map own_frame needs)
    → IsFirstUnfitFrame (window_of class.version) menu needs i → ⊥

-- All slots from one on and before another, such as those from one bit
-- rate to another, are a menu; those up to the last include the largest.
abbrev pub SlicesAreMenus : Type 0
SlicesAreMenus =
    (class : ClassFields) (from to : ℕ) → IsClass class → from < to → to ≤ 28
    → HasAscendingAreas class (slice_range all_slots from to)
    × (1 ≤ length (slice_range all_slots from to))
    × (to ≡ 28 → Contains (slice_range all_slots from to) largest_slot)

-- Frames of one class have one plan from a menu, which is the plan of the first
-- list, or one first unfit frame: a frame is unfit exactly if no list has a layout.
abbrev pub LeastMenuPlanIsThePlan : Type 0
LeastMenuPlanIsThePlan =
    (window : ℕ) (class : ClassFields) (menu : List SlotFields) (needs : List Need)
    → AreNeedsOfClass class needs → 1 ≤ length needs → HasAscendingAreas class menu
    → 1 ≤ length menu → ((placed : List Placed)
    → IsMenuPlan window menu needs placed ↔ (least_menu_plan window menu needs ≡ Ok placed))
    × ((i : ℕ)
    → IsFirstUnfitFrame window menu needs i ↔ (least_menu_plan window menu needs ≡ Err i))
