-- The slots of some bit rates (ISO/IEC 11172-3 and 13818-3, 2.4.2.3), and the plan with only these.
use Rattle.std.specs.Prelude.{Bool, Err, filter, if◌then◌else◌, leb, length, List, nat_lt, None, Ok}
use Rattle.std.specs.Prelude.{Option, Result, Some, true, ℕ, ◌==◌}
use Rattle.commands.specs.{Refusing.{refusal_or, then_made}, declared.fault.EditFault.EditFault}
use Rattle.commands.specs.declared.fault.{EditFault.TheVariants.{Memory, Refused}, Refusal.Refusal}
use Rattle.commands.specs.declared.fault.Refusal.TheVariants.{NoRate, Unfit}
use Rattle.frame_header.specs.{Fields.{ClassFields, SlotFields}, Slots.all_slots}
use Rattle.frame_header.specs.Tables.{rate_of, window_of}
use Rattle.rate_plan.specs.{LeastMenuPlan.least_menu_plan, declared.fault.RateFault.RateFault}
use Rattle.rate_plan.specs.declared.fault.RateFault.TheVariants.{Memory as NoMemory}
use Rattle.rate_plan.specs.declared.fault.RateFault.TheVariants.{Unfit as UnfitFrame}
use Rattle.requests.specs.declared.mode.PackMode.{PackMode, TheVariants.{Constant, Floor}}
use Rattle.slot_plan.specs.declared.needs.{Need.Need, Placed.Placed}

-- the slot has a bit rate that the mode allows
abbrev pub allows : PackMode → ClassFields → SlotFields → Bool
allows (Constant rate) class slot = rate_of class slot == rate
allows (Floor rate) class slot = leb rate (rate_of class slot)
allows _ class slot = true

-- the menu: the slots that are allowed, in order of area
abbrev pub menu_in : PackMode → ClassFields → List SlotFields
menu_in mode class = filter (allows mode class) all_slots

-- a slot of the class has this bit rate
abbrev pub is_rate : ℕ → ClassFields → Bool
is_rate rate class = nat_lt 0 (length (menu_in (Constant rate) class))

-- the refusal of a bit rate that isn't a bit rate of the class
abbrev pub rate_refusal : ℕ → ClassFields → Option Refusal
rate_refusal rate class = if is_rate rate class then None else Some (NoRate rate)

-- the refusal of a mode that names what isn't a bit rate of the class
abbrev pub no_rate : PackMode → ClassFields → Option Refusal
no_rate (Constant rate) class = rate_refusal rate class
no_rate (Floor rate) class = rate_refusal rate class
no_rate _ class = None

-- the plan, or the first unfit frame
abbrev pub fitted_plan : Result (List Placed) ℕ → Result (List Placed) EditFault
fitted_plan (Ok placed) = Ok placed
fitted_plan (Err i) = Err (Refused (Unfit i))

-- The first of all lists of slots from the menu for which there is a layout, without a lead-in or
-- otherwise with one; or why there is none: the first frame up to which there is none.
abbrev pub rates_plan : PackMode → ClassFields → List Need → Result (List Placed) EditFault
rates_plan mode class needs =
    then_made (refusal_or (no_rate mode class) (menu_in mode class))
    (λ menu. fitted_plan (least_menu_plan (window_of class.version) menu needs))

-- a fault of the planner as a fault of a command
abbrev pub rate_edit_fault : RateFault → EditFault
rate_edit_fault (UnfitFrame i) = Refused (Unfit i)
rate_edit_fault NoMemory = Memory
