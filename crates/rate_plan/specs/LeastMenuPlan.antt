-- The plan from a menu as a value: the first of all lists of slots from it, in the order of
-- their areas, for which there is a layout; and the first unfit frame if there is no such list.
use Rattle.std.specs.{List.range_with_len, Option.option_or}
use Rattle.std.specs.Prelude.{Bool, Err, false, find, IfErr, IfOk, is_none, length, List}
use Rattle.std.specs.Prelude.{MatchResult, Ok, ok_or, Option, Result, take, true, unwrap_or, ℕ, ◌+◌}
use Rattle.std.specs.Prelude.{◌≡◌}
use Rattle.frame_header.specs.Fields.{SlotFields}
use Rattle.rate_plan.specs.Menus.{IsMenuPlan, menu_items, RefusesMenu}
use Rattle.rate_plan.specs.declared.fault.RateFault.{RateFault, TheVariants.{Memory, Unfit}}
use Rattle.slot_plan.specs.{LeastPlan.{first_list, least_placement}, Parts.window_in, Plans.entries}
use Rattle.slot_plan.specs.declared.needs.{Need.Need, Placed.Placed, Plan.Plan}

-- the first list without a lead-in, or otherwise the first with one
abbrev pub least_menu_placement : ℕ → List SlotFields → List Need → Option (List Placed)
least_menu_placement window menu needs =
    option_or (least_placement window (menu_items false menu needs))
    (least_placement window (menu_items true menu needs))

-- there is no list for the frames up to this one, even after a lead-in
abbrev pub is_unfit_frame : ℕ → List SlotFields → List Need → ℕ → Bool
is_unfit_frame window menu needs i =
    is_none (first_list window (menu_items true menu (take (i + 1) needs)))

-- the first such frame
abbrev pub first_unfit_frame : ℕ → List SlotFields → List Need → ℕ
first_unfit_frame window menu needs =
    unwrap_or (find (is_unfit_frame window menu needs) (range_with_len 0 (length needs))) 0

-- the plan, or the first unfit frame
unfoldable pub least_menu_plan : ℕ → List SlotFields → List Need → Result (List Placed) ℕ
least_menu_plan window menu needs =
    ok_or (least_menu_placement window menu needs) (first_unfit_frame window menu needs)

-- what a fault says, where `plan` is the plan or the first unfit frame
abbrev pub IsMenuFault : Result (List Placed) ℕ → RateFault → Type 0
IsMenuFault plan (Unfit i) = plan ≡ Err i
IsMenuFault plan Memory = Unit {0}

-- what `rate_plan` returns for a menu and these frames
pub record IsMenuAnswer (menu : List SlotFields) (needs : List Need)
    (result : Result Plan RateFault) : Type 0 where
  -- a plan is the plan from the menu
  pub plan : IfOk result (λ plan. IsMenuPlan (window_in needs) menu needs (entries plan))
  -- a refusal names the first unfit frame
  pub refusal : IfErr result (RefusesMenu (window_in needs) menu needs)
  -- both are the value for the first list
  pub least : MatchResult result (λ plan. least_menu_plan (window_in needs) menu needs
      ≡ Ok (entries plan)) (IsMenuFault (least_menu_plan (window_in needs) menu needs))
