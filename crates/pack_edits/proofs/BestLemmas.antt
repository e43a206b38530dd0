-- The frames of a well-formed file have a best plan, and can be laid by it.
use Rattle.std.proofs.Common.{ap, Bool, inr, length, List, map, None, Ok, Option, refl, Some, subst}
use Rattle.std.proofs.Common.{sym, true, unwrap_or, ℕ, [], ◌<◌, ◌∷◌, ◌≡◌, ◌≤◌}
use Rattle.best_plan.proofs.{BestExistsLemmas.best-exists, BestOfLemmas.best-plan-of}
use Rattle.best_plan.specs.{Best.{IsBestPlan, items_with_lead_in}, BestOf.best_plan_of}
use Rattle.cut_edits.proofs.ChosenLemmas.{rows-fit, the-plan}
use Rattle.cut_edits.specs.Chosen.{Chosen, chosen_needs, chosen_rows, first_plan}
use Rattle.frame_header.specs.{Slots.all_slots, Tables.window_of}
use Rattle.laying.proofs.{FitLemmas.Asks, NeedsFitLemmas.part-fits}
use Rattle.laying.proofs.{PartsLemmas.{one_class, parts_are}, PlannedFrameLemmas.slot_among}
use Rattle.laying.specs.NeedsFit.{any_choice, IsPlacedSurvey}
use Rattle.pack_edits.proofs.PlanLemmas.{asks-from, IsFittingFew, items-fitting, needs-some}
use Rattle.pack_edits.{proofs.PlanLemmas.{rows-same, window-is}, specs.Modes.best_planning}
use Rattle.rate_plan.specs.Menus.{menu_items}
use Rattle.slot_plan.specs.{Laws.PartsChooseInOrder, Layouts.HasLayout}
use Rattle.slot_plan.specs.{Parts.{AreNeedsOfOneClass, own_frame, window_in}, Plans.IsPlan}
use Rattle.slot_plan.specs.declared.needs.{Need.Need, Placed.Placed}
use Rattle.sync_survey.specs.Faults.{SurveyFields}

-- ---- frames can be laid by a best plan

-- the items of a best plan are the items of a plan from the menu of all slots
behind-from : (lead_in : Bool) (needs : List Need)
    → menu_items lead_in all_slots needs ≡ items_with_lead_in lead_in any_choice needs
unfolding items_with_lead_in menu_items
behind-from true (first ∷ needs) = refl
behind-from _ _ = refl

-- after a lead-in or none the places are for the frames
pub asks-behind : (lead_in : Bool) (needs : List Need)
    → Asks (items_with_lead_in lead_in any_choice needs) needs
asks-behind lead_in needs = subst (λ items. Asks items needs) (behind-from lead_in needs)
    (asks-from lead_in all_slots needs)

best-fits : {window : ℕ} {needs : List Need} {placed : List Placed}
    → IsBestPlan window any_choice needs placed → IsFittingFew window needs placed
best-fits {window} {needs} {placed} is =
    let whole = is.whole in
    items-fitting {window = window} is.lead_in all_slots
    {needs = needs} {items = items_with_lead_in is.lead_in any_choice needs}
    (behind-from is.lead_in needs) (λ slot. slot_among {slot = slot})
    {placed = placed} whole.slots whole.best.feasible whole.begins

-- ---- chosen frames

unwrapped : (o : Option (List Placed)) {best placed : List Placed} → o ≡ Some best
    → unwrap_or o [] ≡ placed → o ≡ Some placed
unwrapped (Some other) some is = ap Some is
unwrapped None some is = absurd cc

module _ (chosen : Chosen) (s : SurveyFields) (placed : IsPlacedSurvey s)
    (some : chosen.from < chosen.to)
    (within : chosen.to ≤ length s.frames) where
  -- the choices ascend for each frame
  pub in-order : PartsChooseInOrder any_choice (chosen_needs chosen s ∷ [])
  in-order = subst (PartsChooseInOrder any_choice) (parts_are [] (chosen_rows chosen s ∷ []) refl)
      (rows-fit chosen s placed some within).least

  -- the needs are of one class
  pub needs-of-one : AreNeedsOfOneClass (chosen_needs chosen s)
  needs-of-one = one_class s.class (chosen_needs chosen s) (rows-same chosen s placed some within)

  window_is : window_in (chosen_needs chosen s) ≡ window_of s.class.version
  window_is = window-is s.class (chosen_needs chosen s) (rows-same chosen s placed some within)
      (needs-some chosen s placed some within)

  -- the frames fit in their own slots after a whole window
  pub needs-feasible : HasLayout (window_in (chosen_needs chosen s))
      (window_in (chosen_needs chosen s))
      (map own_frame (chosen_needs chosen s))
  needs-feasible =
      subst (λ w. HasLayout w w (map own_frame (chosen_needs chosen s))) (sym window_is)
      (part-fits s chosen.from chosen.to placed).1

  -- what the planner returns is the best plan
  pub best-answer : {plan : List Placed}
      → IsBestPlan (window_in (chosen_needs chosen s)) any_choice (chosen_needs chosen s) plan
      → best_planning s.class (chosen_needs chosen s) ≡ Ok plan
  best-answer {plan} best =
      ap (λ o. Ok (unwrap_or o []))
      ((best-plan-of (window_of s.class.version) any_choice (chosen_needs chosen s) plan in-order).0
      (subst (λ w. IsBestPlan w any_choice (chosen_needs chosen s) plan) window_is best))

  -- the first of all lists with a layout is the plan of packing with the least slots
  pub plain-plan : IsPlan (window_of s.class.version) any_choice (chosen_needs chosen s ∷ [])
      (first_plan any_choice s.class (chosen_needs chosen s))
  plain-plan = the-plan chosen s placed some within (inr refl)

  -- the frames have a best plan
  pub best-some : (best : List Placed)
      × (best_plan_of (window_of s.class.version) any_choice (chosen_needs chosen s) ≡ Some best)
  best-some = best-exists (window_of s.class.version) any_choice (chosen_needs chosen s)
      (first_plan any_choice s.class (chosen_needs chosen s)) plain-plan

  -- the plan that isn't refused is the best plan
  pub best-is : {plan : List Placed} → best_planning s.class (chosen_needs chosen s) ≡ Ok plan
      → IsBestPlan (window_of s.class.version) any_choice (chosen_needs chosen s) plan
  best-is {plan} planned =
      let same : unwrap_or
      (best_plan_of (window_of s.class.version) any_choice (chosen_needs chosen s)) [] ≡ plan =
      cc in
      (best-plan-of (window_of s.class.version) any_choice (chosen_needs chosen s) plan in-order).1
      (unwrapped (best_plan_of (window_of s.class.version) any_choice (chosen_needs chosen s))
      best-some.1 same)

  -- the frames can be laid by the best plan
  pub best-fitting : {plan : List Placed} → best_planning s.class (chosen_needs chosen s) ≡ Ok plan
      → IsFittingFew (window_of s.class.version) (chosen_needs chosen s) plan
  best-fitting {plan} planned = best-fits (best-is planned)
