-- The frames of a span in the slots of their plan: at most one lead-in comes before them, and one
-- if the span has to have it.
use Rattle.std.proofs.Common.{append-nil, arith, Bool, false, IsTrue, length, List, map, refl}
use Rattle.std.proofs.Common.{subst, true, ℕ, [], ◌+◌, ◌-◌, ◌∷◌, ◌≡◌}
use Rattle.std.proofs.lemmas.List.{length-drop, length-map, length-take}
use Rattle.std.specs.Prelude.{All, ◌<◌, ◌↔◌, ◌≤◌}
use Rattle.cut_edits.proofs.ChosenLemmas.{by_usual, headers-known, plan-few, plan-fitting, rows-fit}
use Rattle.cut_edits.proofs.ChosenLemmas.{usual_slots}
use Rattle.cut_edits.specs.Chosen.{Chosen, chosen_needs, chosen_rows}
use Rattle.cut_edits.specs.Exact.{span_lead_ins, span_plan}
use Rattle.exact_span.specs.{Spans.AreLeads, declared.span.Span.Span}
use Rattle.frame_header.specs.Tables.{window_of}
use Rattle.laying.proofs.FitLemmas.{AreHeaders, AreOpen, Asks, asks-each, items-fit, open-in_slots}
use Rattle.laying.proofs.{NeedsFitLemmas.part-known, PartsLemmas.parts_are}
use Rattle.laying.proofs.PlannedFrameLemmas.{slot_among}
use Rattle.laying.specs.Fits.{FitsFromReach, IsFittingPlan, reach_behind}
use Rattle.laying.specs.Needs.{needs_of_parts, part_places, plan_input, PlanInput}
use Rattle.laying.specs.{NeedsFit.{IsPlacedSurvey, own_choice}, Relaid.rest_behind}
use Rattle.slot_plan.{proofs.LeastPlanLemmas.led-plan-is, specs.Laws.PartsChooseInOrder}
use Rattle.slot_plan.specs.LeastPlan.{led_plan}
use Rattle.slot_plan.specs.Parts.{AreNeedsOfClass, ArePartsFeasible, CanBePlanned, led_items}
use Rattle.slot_plan.specs.Parts.{need_item, needs_in_parts, PlanItem, window_in}
use Rattle.slot_plan.specs.{Plans.{AreItemSlots, IsLedPlan}, declared.needs.Need.Need}
use Rattle.slot_plan.specs.declared.needs.Placed.{Placed}
use Rattle.sync_survey.specs.Faults.{SurveyFields}

-- ---- the items of a led plan

led_asks : (needs : List Need) → Asks (led_items own_choice needs) needs
unfolding led_items
led_asks needs = grind (arith, asks-each)

frames_open : (needs : List Need) → AreHeaders needs → AreOpen (map (need_item own_choice) needs)
frames_open [] are = tt
frames_open (need ∷ needs) are = grind (arith, usual_slots, by_usual, frames_open needs are.1)

led_open : (needs : List Need) → AreHeaders needs → AreOpen (led_items own_choice needs)
unfolding led_items
led_open [] are = tt
led_open (need ∷ needs) are = ((λ slot has. slot_among has), frames_open (need ∷ needs) are)

-- a list of slots for items is as long as the items
pub for_length : (items : List PlanItem) (placed : List Placed) → AreItemSlots items placed
    → length placed ≡ length items
unfolding AreItemSlots
for_length [] [] are = refl
for_length [] (p ∷ placed) are = absurd are
for_length (item ∷ items) [] are = absurd are
for_length (item ∷ items) (p ∷ placed) are = omega (arith, for_length items placed are.2)

led_length : (needs : List Need) → 0 < length needs
    → length (led_items own_choice needs) ≡ length needs + 1
unfolding led_items
led_length needs some = grind (arith, length-map)

-- ---- as many places as frames

left_many : (lead_in : Bool) (need : Need) (needs : List Need)
    → length needs ≤ length (rest_behind lead_in need needs)
left_many lead_in need needs = grind arith

fits_many : (window reach : ℕ) (needs : List Need) (placed : List Placed)
    → FitsFromReach window reach needs placed → length needs ≤ length placed
unfolding FitsFromReach
fits_many window reach [] [] fits = omega arith
fits_many window reach [] (p ∷ placed) fits = absurd fits
fits_many window reach (need ∷ needs) [] fits = absurd fits
fits_many window reach (need ∷ needs) (p ∷ placed) fits =
    grind (
      arith,
      left_many,
      fits_many window (reach_behind window p need) (rest_behind p.lead_in
          need needs) placed fits.2,
    )

-- ---- the plan of chosen frames

module _ (chosen : Chosen) (s : SurveyFields) (placed : IsPlacedSurvey s)
    (some : chosen.from < chosen.to)
    (within : chosen.to ≤ length s.frames) where
  abbrev needs : List Need
  needs = chosen_needs chosen s

  abbrev asked : PlanInput
  asked = plan_input (chosen_rows chosen s ∷ [])

  -- there are as many needs as frames
  pub needs-length : length needs ≡ chosen.to - chosen.from
  needs-length = grind (arith, length-map, length-take, length-drop)

  parts_is : needs_in_parts asked.needs asked.places ≡ needs ∷ []
  parts_is = parts_are [] (chosen_rows chosen s ∷ []) refl

  -- what the planner returns for these needs is the led plan
  pub led-is : (ps : List Placed) → IsLedPlan (window_of s.class.version) own_choice needs ps
      ↔ (ps ≡ led_plan (window_of s.class.version) own_choice needs)
  led-is ps =
      let fit = rows-fit chosen s placed some within in
      led-plan-is s.class own_choice needs ps
      (subst (All (AreNeedsOfClass s.class)) parts_is fit.each 0 [] (omega arith))
      (subst (PartsChooseInOrder own_choice) parts_is fit.kept)
      (subst (λ (n : ℕ). ArePartsFeasible n (needs ∷ []))
      fit.window (subst (ArePartsFeasible (window_in asked.needs)) parts_is fit.planned.feasible))

  flat : asked.needs ≡ needs
  unfolding needs_of_parts
  flat = append-nil needs

  -- a plan with a lead-in is the one of the definition
  pub led-answer : {ps : List Placed} → IsLedPlan (window_in asked.needs) own_choice asked.needs ps
      → ps ≡ led_plan (window_of s.class.version) own_choice needs
  led-answer {ps} plan = grind (arith, rows-fit chosen s placed some within, led-is ps, flat)

  -- the frames can be planned
  pub led-can : CanBePlanned asked.needs (0 ∷ [])
  unfolding part_places
  led-can = (rows-fit chosen s placed some within).planned

  the_led : IsLedPlan (window_of s.class.version) own_choice needs
      (led_plan (window_of s.class.version) own_choice needs)
  the_led = (led-is (led_plan (window_of s.class.version) own_choice needs)).1 refl

  known : AreHeaders needs
  known = headers-known (chosen_rows chosen s) (part-known s chosen.from chosen.to placed)

  -- the frames can be laid by either plan
  pub with-fitting : (led : Bool)
      → IsFittingPlan (window_of s.class.version) needs (span_plan led s.class needs)
  with-fitting false = plan-fitting chosen s placed some within (by_usual false)
  with-fitting true =
      grind (
        arith,
        items-fit,
        led_asks needs,
        open-in_slots,
        led_open needs known,
        known,
        s.class.version,
        the_led.slots,
        the_led.least.feasible,
        the_led.begins,
      )

  led_many : length (led_plan (window_of s.class.version) own_choice needs)
      ≡ chosen.to - chosen.from + 1
  led_many =
      grind (
        arith,
        for_length (led_items own_choice needs) (led_plan (window_of s.class.version)
            own_choice needs) the_led.slots,
        led_length needs (omega (arith, needs-length, some)),
        needs-length,
      )

  -- the plan has at most one place more than frames
  pub with-few : (led : Bool) → length (span_plan led s.class needs) ≤ chosen.to - chosen.from + 1
  with-few led = grind (arith, plan-few, by_usual, needs-length, led_many)

  -- the plan has no fewer places than frames
  pub with-many : (led : Bool) → chosen.to - chosen.from ≤ length (span_plan led s.class needs)
  with-many led = omega (
    arith,
    fits_many (window_of s.class.version) 0 needs (span_plan led s.class needs)
        (with-fitting led).fits,
    needs-length,
  )

  with_led : {led : Bool} → IsTrue led
      → length (span_plan led s.class needs) - (chosen.to - chosen.from) ≡ 1
  with_led is = grind (arith, led_many)

  -- the plan has a lead-in if the span has to have one
  pub with-leads : {span : Span} → chosen.from ≡ span.first → chosen.to ≡ span.last
      → AreLeads span (span_lead_ins span (span_plan span.led s.class needs))
  with-leads from to = grind (arith, with-few, with_led)
