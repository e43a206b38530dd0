-- The plan with the slots of some bit rates: frames can be laid by it, and with all bit rates from
-- one on there is always one.
use Rattle.std.proofs.Common.{All, ap, append-nil, arith, Bool, Contains, Err, IfErr, length}
use Rattle.std.proofs.Common.{length-drop, List, map, MatchResult, None, Ok, refl, Result, subst, ℕ}
use Rattle.std.proofs.Common.{[], ◌+◌, ◌<◌, ◌∙◌, ◌∷◌, ◌≡◌, ◌≤◌}
use Rattle.std.proofs.lemmas.List.{length-map, length-take}
use Rattle.commands.proofs.RefusingLemmas.{refusal_or-late, refusal_or-ok, then_late, then_ok}
use Rattle.commands.specs.{AfterCall.IsLateFault, Refusing.refusal_or}
use Rattle.commands.specs.declared.fault.EditFault.{EditFault}
use Rattle.cut_edits.proofs.SpanLemmas.{for_length}
use Rattle.cut_edits.specs.Chosen.{Chosen, chosen_needs, chosen_rows}
use Rattle.frame_header.proofs.HeaderLemmas.{IsClass-class_of}
use Rattle.frame_header.specs.Fields.{ClassFields, IsClass, IsSlot, SlotFields}
use Rattle.frame_header.specs.{Slots.largest_slot, Tables.window_of}
use Rattle.laying.proofs.FitLemmas.{AreOpen, Asks, asks-each, items-fit, open-in_slots}
use Rattle.laying.proofs.NeedsFitLemmas.{AreKnown, part-fits, part-known}
use Rattle.laying.specs.{Fits.IsFittingPlan, Needs.{need_of, needs_of_parts, plan_input, PlanInput}}
use Rattle.laying.specs.NeedsFit.{IsPlacedSurvey}
use Rattle.pack_edits.proofs.MenuLemmas.{floor-largest, menu-ascends, menu-slots, menu-some}
use Rattle.pack_edits.specs.{Answers.IsPlanFault, Modes.{mode_planning, mode_refuses}}
use Rattle.pack_edits.specs.Rates.{fitted_plan, menu_in, no_rate, rate_edit_fault, rates_plan}
use Rattle.rate_plan.proofs.{LargestSlotLemmas.largest-fits, LeastMenuPlanLemmas.least_menu_plan-is}
use Rattle.rate_plan.specs.LeastMenuPlan.{IsMenuFault, least_menu_plan}
use Rattle.rate_plan.specs.Menus.{HasAscendingAreas, IsMenu, IsMenuPlan, menu_choices, menu_items}
use Rattle.rate_plan.specs.declared.fault.RateFault.{RateFault}
use Rattle.requests.specs.declared.mode.PackMode.{PackMode, TheVariants.{Constant, Floor}}
use Rattle.slot_plan.specs.{Layouts.{begins_of, HasLayout}, Lists.frames_with_areas}
use Rattle.slot_plan.specs.Parts.{AreNeedsOfClass, need_item, open_frame, PlanItem, window_in}
use Rattle.slot_plan.specs.{Plans.{AreItemSlots, entries, item_areas}, declared.needs.Need.Need}
use Rattle.slot_plan.specs.declared.needs.{Placed.Placed, Plan.Plan}
use Rattle.sync_survey.specs.{Faults.SurveyFields, Row.Row}

-- ---- from a menu

-- after a lead-in from the menu or none the places are for the frames
pub asks-from : (lead_in : Bool) (menu : List SlotFields) (needs : List Need)
    → Asks (menu_items lead_in menu needs) needs
unfolding menu_items
asks-from lead_in menu needs = grind (arith, asks-each)

module _ (menu : List SlotFields)
    (slots : (slot : SlotFields) → Contains menu slot → IsSlot slot) where
  open-needs : (needs : List Need) → AreOpen (map (need_item (menu_choices menu)) needs)
  open-needs [] = tt
  open-needs (need ∷ needs) = (slots, open-needs needs)

  open-from : (lead_in : Bool) (needs : List Need) → AreOpen (menu_items lead_in menu needs)
  unfolding menu_items
  open-from lead_in needs = grind (arith, open-needs)

from-length : (lead_in : Bool) (menu : List SlotFields) (needs : List Need)
    → length (menu_items lead_in menu needs) ≤ length needs + 1
unfolding menu_items
from-length lead_in menu needs = grind (arith, length-map)

-- frames can be laid by the plan, with at most one lead-in
pub record IsFittingFew (window : ℕ) (needs : List Need) (placed : List Placed) : Type 0 where
  pub fitting : IsFittingPlan window needs placed
  pub few : length placed ≤ length needs + 1

-- these items are for these frames, and were laid as early as they may be
pub items-fitting : {window : ℕ} (lead_in : Bool) (menu : List SlotFields) {needs : List Need}
    {items : List PlanItem} → menu_items lead_in menu needs ≡ items
    → ((slot : SlotFields) → Contains menu slot → IsSlot slot) → {placed : List Placed}
    → AreItemSlots items placed
    → HasLayout window 0 (frames_with_areas (map open_frame items) (item_areas items placed))
    → map (λ (p : Placed). p.begin) placed
    ≡ begins_of window 0 0 (frames_with_areas (map open_frame items) (item_areas items placed))
    → IsFittingFew window needs placed
items-fitting lead_in menu {needs} {items} same slots
    {placed} for_items feasible begins =
    let most =
    subst (λ (l : List PlanItem). length l ≤ length needs + 1) same
    (from-length lead_in menu needs) in
    record {
      fitting =
          grind (
            arith,
            items-fit,
            asks-from lead_in menu needs,
            open-in_slots items placed (subst
                AreOpen same (open-from menu slots lead_in needs)) for_items,
            open-from menu slots lead_in
                needs,
          );
      few = omega (arith, for_length items placed for_items, most);
    }

menu-fitting : (window : ℕ) (menu : List SlotFields) (needs : List Need) (placed : List Placed)
    → ((slot : SlotFields) → Contains menu slot → IsSlot slot) → IsMenuPlan window menu needs placed
    → IsFittingFew window needs placed
menu-fitting window menu needs placed slots is =
    let whole = is.whole in
    items-fitting is.lead_in menu refl slots
    whole.slots whole.least.feasible whole.begins

-- ---- with the slots of some bit rates

-- a plan that isn't refused is the plan that was found
pub fitted_plan-ok : (r : Result (List Placed) ℕ) (placed : List Placed) → fitted_plan r ≡ Ok placed
    → r ≡ Ok placed
fitted_plan-ok r placed is = grind arith

fitted_plan-late : (r : Result (List Placed) ℕ) → IfErr (fitted_plan r) IsLateFault
fitted_plan-late r = grind arith

-- the refusals of a plan are late
pub rates-late : (mode : PackMode) (class : ClassFields) (needs : List Need)
    → IfErr (rates_plan mode class needs) IsLateFault
rates-late mode class needs = grind (arith, then_late, refusal_or-late, fitted_plan-late)

-- frames can be laid by a plan that isn't refused
pub rates-fitting : (mode : PackMode) (class : ClassFields) (needs : List Need)
    (placed : List Placed) → IsClass class → AreNeedsOfClass class needs → 1 ≤ length needs
    → rates_plan mode class needs ≡ Ok placed → IsFittingFew (window_of class.version) needs placed
rates-fitting mode class needs placed sound same some planned =
    let window = window_of class.version in
    let made = then_ok {r = refusal_or (no_rate mode class) (menu_in mode class)}
    {make = λ menu. fitted_plan (least_menu_plan window menu needs)} {b = placed} planned in
    let ok = refusal_or-ok {o = no_rate mode class} {a = menu_in mode class} {b = made.0} made.1 in
    let is : least_menu_plan window (menu_in mode class) needs ≡ Ok placed =
    grind (arith, fitted_plan-ok) in
    menu-fitting window (menu_in mode class) needs placed (menu-slots mode class)
    (((least_menu_plan-is window class (menu_in mode class) needs same some
    (menu-ascends mode class sound) (menu-some mode class ok.0)).0 placed).1 is)

-- ---- what the planner returns

-- the window of the needs is the window of their class
pub window-is : (class : ClassFields) (needs : List Need) → AreNeedsOfClass class needs
    → 1 ≤ length needs → window_in needs ≡ window_of class.version
unfolding AreNeedsOfClass
window-is class needs same some = grind arith

-- slots with ascending areas are a menu
pub is-menu : (class : ClassFields) (menu : List SlotFields) (needs : List Need)
    → AreNeedsOfClass class needs → HasAscendingAreas class menu → IsMenu menu needs
unfolding AreNeedsOfClass
is-menu class menu needs same ascend = grind arith

-- what the planner is given for frames
pub needs-one : (rows : List Row) → needs_of_parts (rows ∷ []) ≡ map need_of rows
unfolding needs_of_parts
needs-one rows = append-nil (map need_of rows)

-- what the planner is given for one part
pub given-needs : (rows : List Row) {parts : PlanInput} {needs : List Need}
    → parts ≡ plan_input (rows ∷ []) → needs ≡ parts.needs → needs ≡ map need_of rows
given-needs rows same is = is ∙ ap (λ (a : PlanInput). a.needs) same ∙ needs-one rows

-- what the planner returns for this menu
abbrev Says : ℕ → List SlotFields → List Need → Result Plan RateFault → Type 0
Says window menu needs r = MatchResult r (λ plan. least_menu_plan window menu needs
    ≡ Ok (entries plan)) (IsMenuFault (least_menu_plan window menu needs))

-- what the planner returns with the window of the needs is right for the window of their class
pub planner-says : (class : ClassFields) (menu : List SlotFields) (needs : List Need)
    (r : Result Plan RateFault) → AreNeedsOfClass class needs → 1 ≤ length needs
    → Says (window_in needs) menu needs r → Says (window_of class.version) menu needs r
planner-says class menu needs r same some says = grind (arith, window-is)

-- ---- chosen frames

class-sound : (class : ClassFields) (rows : List Row) → AreKnown rows
    → AreNeedsOfClass class (map need_of rows) → 1 ≤ length rows → IsClass class
unfolding AreNeedsOfClass
class-sound class [] known same some = absurd (omega (arith, some))
class-sound class (r ∷ rows) known same some = grind (arith, IsClass-class_of)

known-slots : (rows : List Row) → AreKnown rows
    → All (λ need. IsSlot need.header.slot) (map need_of rows)
known-slots [] known = λ k d within. absurd (omega (arith, within))
known-slots (r ∷ rows) known = grind (arith, known-slots rows known.1)

-- the mode names a bit rate
abbrev pub IsNamed : PackMode → Type 0
IsNamed (Constant rate) = Unit {0}
IsNamed (Floor rate) = Unit {0}
IsNamed _ = ⊥

module _ (chosen : Chosen) (s : SurveyFields) (placed : IsPlacedSurvey s)
    (some : chosen.from < chosen.to)
    (within : chosen.to ≤ length s.frames) where
  -- at least one frame is chosen
  pub rows-some : 1 ≤ length (chosen_rows chosen s)
  rows-some = grind (arith, length-drop, length-take)

  -- no more frames are chosen than the survey has
  pub rows-few : length (chosen_rows chosen s) ≤ length s.frames
  rows-few = grind (arith, length-drop, length-take)

  -- the needs are of the class of the survey
  pub rows-same : AreNeedsOfClass s.class (chosen_needs chosen s)
  rows-same = (part-fits s chosen.from chosen.to placed).0

  -- the class is one of the standard
  pub rows-sound : IsClass s.class
  rows-sound = grind (arith, class-sound, part-known, rows-same, rows-some)

  -- there is at least one need
  pub needs-some : 1 ≤ length (chosen_needs chosen s)
  needs-some = omega (arith, rows-some, length-map (chosen_rows chosen s) need_of)

  -- the frames can be laid by the plan of a menu
  pub chosen-fitting : (mode : PackMode) {plan : List Placed}
      → rates_plan mode s.class (chosen_needs chosen s) ≡ Ok plan
      → IsFittingFew (window_of s.class.version) (chosen_needs chosen s) plan
  chosen-fitting mode {plan} planned =
      rates-fitting mode s.class (chosen_needs chosen s) plan rows-sound rows-same needs-some
      planned

  known : AreKnown (chosen_rows chosen s)
  known = part-known s chosen.from chosen.to placed

  abbrev menu_answer : PackMode → Result (List Placed) ℕ
  menu_answer mode =
      least_menu_plan (window_of s.class.version) (menu_in mode s.class) (chosen_needs chosen s)

  -- if the largest slot is allowed, no frame is unfit
  never-unfit : (mode : PackMode) {i : ℕ} → no_rate mode s.class ≡ None
      → Contains (menu_in mode s.class) largest_slot → menu_answer mode ≡ Err i → ⊥
  never-unfit mode {i} none largest is =
      let menu = menu_in mode s.class in
      let unfit =
      ((least_menu_plan-is (window_of s.class.version) s.class menu
      (chosen_needs chosen s) rows-same
      needs-some (menu-ascends mode s.class rows-sound) (menu-some mode s.class none)).1 i).1 is in
      largest-fits s.class menu (chosen_needs chosen s) i rows-sound rows-same
      (known-slots (chosen_rows chosen s) known) largest
      (part-fits s chosen.from chosen.to placed).1 unfit

  -- with all bit rates from one on, no frame is unfit
  pub floor-unfit : (rate : ℕ) {i : ℕ} → no_rate (Floor rate) s.class ≡ None
      → menu_answer (Floor rate) ≡ Err i → ⊥
  floor-unfit rate {i} none is = never-unfit (Floor rate) none (floor-largest rate s.class none) is

  -- the plan is what the menu gives
  pub plan-is : (mode : PackMode) {r : Result (List Placed) ℕ} → no_rate mode s.class ≡ None
      → menu_answer mode ≡ r → rates_plan mode s.class (chosen_needs chosen s) ≡ fitted_plan r
  plan-is mode none is = grind arith

  abbrev IsFaultIn : PackMode → EditFault → Type 0
  IsFaultIn mode fault =
      IsPlanFault (mode_planning mode) (mode_refuses mode) s.class (chosen_needs chosen s) fault

  -- a fault of the planner of a menu is a fault of the mode
  pub menu-fault : (mode : PackMode) (fault : RateFault) → IsNamed mode → no_rate mode s.class
      ≡ None → IsMenuFault (menu_answer mode) fault → IsFaultIn mode (rate_edit_fault fault)
  menu-fault mode fault named none is = grind (arith, plan-is, floor-unfit)

  -- the plan of a mode that names a bit rate is what the menu gives
  pub menu-plan : (mode : PackMode) {plan : List Placed} → IsNamed mode → no_rate mode s.class
      ≡ None → menu_answer mode ≡ Ok plan
      → mode_planning mode s.class (chosen_needs chosen s) ≡ Ok plan
  menu-plan mode named none is = grind arith
