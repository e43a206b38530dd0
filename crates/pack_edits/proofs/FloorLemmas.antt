-- If all bit rates from one on are allowed, no file is refused with `Unfit`.
use Rattle.std.proofs.Common.{ap, Bool, cond, Err, false, inl, inr, length, List, nat_le, nat_lt}
use Rattle.std.proofs.Common.{None, Ok, refl, Result, Some, true, ℕ, ◌&&◌, ◌≡◌}
use Rattle.commands.specs.Refusing.{refusal_or, then_made}
use Rattle.commands.specs.SingleOutput.{made_file, most_frames, surveyed_result}
use Rattle.commands.specs.declared.fault.EditFault.{EditFault, TheVariants.Refused}
use Rattle.commands.specs.declared.fault.Refusal.TheVariants.{NoRate, Range, Unfit}
use Rattle.cut_edits.proofs.ChosenLemmas.{all_right, laid-fault}
use Rattle.cut_edits.specs.Chosen.{all_choice, Chosen, chosen_needs, laying_making}
use Rattle.frame_header.specs.Tables.{window_of}
use Rattle.pack_edits.{proofs.PlanLemmas.floor-unfit, specs.Laws.FloorsFit}
use Rattle.pack_edits.specs.Rates.{fitted_plan, is_rate, menu_in, no_rate, rates_plan}
use Rattle.rate_plan.specs.LeastMenuPlan.{least_menu_plan}
use Rattle.requests.specs.declared.mode.PackMode.TheVariants.{Floor}
use Rattle.slot_plan.specs.declared.needs.Placed.{Placed}
use Rattle.sync_survey.proofs.PlacedRowLemmas.{survey_fields-placed}
use Rattle.sync_survey.{proofs.SurveyedFileLemmas.survey_of-parts, specs.Faults.SurveyFields}
use Rattle.sync_survey.specs.{Survey.survey_of, declared.survey_fault.SurveyFault.SurveyFault}

-- a frame is unfit
abbrev unfit : {A : Type 0} → ℕ → Result A EditFault
unfit i = Err (Refused (Unfit i))

unfit-menu : {i : ℕ} (r : Result (List Placed) ℕ) → fitted_plan r ≡ unfit i → r ≡ Err i
unfit-menu (Ok placed) e = absurd cc
unfit-menu (Err k) e = cc

module _ (rate i : ℕ) (file : List ℕ) {s : SurveyFields}
    (is : survey_of file most_frames ≡ Ok s) where
  unfit-plan : {chosen : Chosen} → all_choice file s ≡ Ok chosen
      → rates_plan (Floor rate) s.class (chosen_needs chosen s) ≡ unfit i → ⊥
  unfit-plan {chosen} chose e = at (is_rate rate s.class) refl e
    where
      at : (b : Bool) → is_rate rate s.class ≡ b
          → then_made (refusal_or (cond b None (Some (NoRate rate))) (menu_in (Floor rate) s.class))
          (λ menu.
          fitted_plan (least_menu_plan (window_of s.class.version) menu (chosen_needs chosen s)))
          ≡ unfit i → ⊥
      at false none e = absurd cc
      at true some e =
          let right = all_right file chose in
          let none : no_rate (Floor rate) s.class ≡ None =
          ap (λ b. cond b None (Some (NoRate rate))) some in
          floor-unfit chosen s
          (survey_fields-placed file most_frames (survey_of-parts file most_frames is).1)
          right.some right.within rate none (unfit-menu _ e)

  unfit-chosen : (o : Bool) (chosen : Chosen)
      → refusal_or (cond o None (Some (Range 0 (length s.frames) (length s.frames)))) chosen
      ≡ unfit i → ⊥
  unfit-chosen true chosen e = absurd cc
  unfit-chosen false chosen e = absurd cc

  unfit-choice : all_choice file s ≡ unfit i → ⊥
  unfolding all_choice
  unfit-choice e =
      unfit-chosen (nat_lt 0 (length s.frames) && nat_le (length s.frames) (length s.frames)) _ e

  unfit-packing : laying_making all_choice (rates_plan (Floor rate)) file s ≡ unfit i → ⊥
  unfit-packing e =
      elim (laid-fault all_choice (rates_plan (Floor rate)) e)
      as (λ _. ⊥) [
        | inl refused ↦ unfit-choice refused
        | inr no_plan ↦ unfit-plan no_plan.1 no_plan.2
      ]

-- with all bit rates of the class from one on, no file is refused because there is no room
pub floors-fit : FloorsFit
unfolding made_file
floors-fit rate i file made = at (survey_of file most_frames) refl made
  where
    at : (r : Result SurveyFields SurveyFault) → survey_of file most_frames ≡ r
        → surveyed_result (laying_making all_choice (rates_plan (Floor rate))) file r ≡ unfit i → ⊥
    at (Err fault) is e = absurd cc
    at (Ok s) is e = unfit-packing rate i file is e
