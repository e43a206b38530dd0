-- The plan of all frames of several inputs.
use Rattle.std.proofs.Common.{All, ap, arith, length, length-append, List, map, refl, suc, sym}
use Rattle.std.proofs.Common.{take, zero, ℕ, [], ◌+◌, ◌∷◌, ◌≡◌, ◌≤◌}
use Rattle.std.proofs.lemmas.List.{length-map, take-map, Elements.{All-cons, All-nil}}
use Rattle.std.specs.Prelude.{◌↔◌}
use Rattle.commands.specs.SingleOutput.{most_frames}
use Rattle.frame_header.specs.{Fields.ClassFields, Limits.most_output_frames}
use Rattle.join_edits.specs.JoinReady.{IsPlanOf, least_plan_of}
use Rattle.joined_inputs.proofs.InputLemmas.{can-some}
use Rattle.joined_inputs.specs.Inputs.{AreInputsOfClass, CanInputsBeJoined, class_of_first}
use Rattle.joined_inputs.specs.Inputs.{frames_together, InputFields, survey_rows}
use Rattle.joined_inputs.specs.Laying.{window_for}
use Rattle.laying.proofs.FitLemmas.{asked-plans, needs-flat, plans-fit}
use Rattle.laying.proofs.PartsLemmas.{parts-fit, parts-plan}
use Rattle.laying.proofs.PlacesLemmas.{plan-length, range-whole}
use Rattle.laying.specs.Needs.{need_of, needs_of_parts, part_places, plan_input, PlanInput}
use Rattle.laying.specs.NeedsFit.{IsFitPlanInput, IsPartOf, own_choice}
use Rattle.slot_plan.specs.{LeastPlan.least_plan, Parts.{needs_in_parts, window_in}, Plans.IsPlan}
use Rattle.slot_plan.specs.declared.needs.{Need.Need, Placed.Placed}
use Rattle.sync_survey.specs.Row.{Row}

-- ---- how many frames and places

needs-length : (inputs : List InputFields)
    → length (needs_of_parts (survey_rows inputs)) ≡ frames_together inputs
unfolding needs_of_parts frames_together
needs-length [] = refl
needs-length (i ∷ inputs) = grind (arith, length-append, length-map, needs-length inputs)

places-length : (at : ℕ) (parts : List (List Row)) → length (part_places at parts) ≡ length parts
unfolding part_places
places-length at [] = refl
places-length at (rows ∷ parts) = ap suc (places-length (at + length rows) parts)

taken : (k : ℕ) (inputs : List InputFields)
    → frames_together (take k inputs) ≤ frames_together inputs
unfolding frames_together
taken zero inputs = omega arith
taken (suc k) [] = omega arith
taken (suc k) (i ∷ inputs) = omega (arith, taken k inputs)

-- the first k inputs have no more frames than may be planned at once
pub parts-few : {X : Type 0} (f : X → InputFields) (k : ℕ) (xs : List X)
    → CanInputsBeJoined (map f xs)
    → length (needs_of_parts (survey_rows (map f (take k xs)))) ≤ most_frames
parts-few f k xs can =
    grind (arith, needs-length (map f (take k xs)), take-map f k xs, taken k (map f xs))

-- ---- the plan

alike-parts : {class : ClassFields} (inputs : List InputFields) → AreInputsOfClass class inputs
    → All (IsPartOf class) (survey_rows inputs)
alike-parts {class} [] are = All-nil (IsPartOf class)
alike-parts {class} (i ∷ inputs) are =
    All-cons (IsPartOf class) i.survey.frames (survey_rows inputs)
    (record {
      survey = i.survey;
      from = 0;
      to = length i.survey.frames;
      placed = are.1.placed;
      same = are.2;
      some = are.0;
      within = omega arith;
      are = sym (range-whole i.survey.frames);
    })
    (alike-parts inputs are.3)

module _ {inputs : List InputFields} (can : CanInputsBeJoined inputs) where
  abbrev parts : List (List Need)
  parts = map (map need_of) (survey_rows inputs)

  abbrev window : ℕ
  window = window_for (class_of_first inputs)

  abbrev asked : PlanInput
  asked = plan_input (survey_rows inputs)

  some : 1 ≤ length (survey_rows inputs)
  some = omega (arith, length-map inputs (λ (i : InputFields). i.survey.frames), can-some can)

  -- the parts can be planned
  pub all-fit : IsFitPlanInput can.class asked
  all-fit = parts-fit can.class (survey_rows inputs) some (alike-parts inputs can.alike)

  one-plan : (placed : List Placed)
      → IsPlan window own_choice parts placed ↔ (placed ≡ least_plan window own_choice parts)
  one-plan placed =
      rw can.first (parts-plan
      (survey_rows inputs) placed all-fit all-fit.kept)

  -- the plan is the first of all lists with a layout
  pub the-plan : IsPlan window own_choice parts (least_plan window own_choice parts)
  the-plan = (one-plan _).1 refl

  -- what the planner returns is the plan
  pub plan-is : {placed : List Placed}
      → IsPlan (window_in asked.needs) own_choice (needs_in_parts asked.needs asked.places) placed
      → IsPlanOf inputs placed
  unfolding least_plan_of
  plan-is {placed} is = grind (arith, asked-plans, all-fit, one-plan placed, plans-fit)

  -- the parts have no more frames than are allowed
  pub needs-few : length asked.needs ≤ most_frames
  needs-few = omega (arith, needs-length inputs, can.frames)

  -- there are at most 64 parts
  pub places-few : length asked.places ≤ 64
  places-few = grind (arith, places-length, length-map)

  -- the plan has at most one place more than frames for each part
  pub plan-few : length (least_plan_of inputs) ≤ most_output_frames
  unfolding least_plan_of
  plan-few = grind (arith, plan-length, needs-flat, length-map, needs-length)
