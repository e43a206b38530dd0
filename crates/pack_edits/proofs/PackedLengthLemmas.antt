-- What `pack --best` writes, and what `pack` writes for the same input.
use Rattle.std.proofs.Common.{ap, Bool, Err, length, List, None, Ok, OnOk, Option, refl, Result}
use Rattle.std.proofs.Common.{Some, subst, sym, ℕ, [], ◌∙◌, ◌∷◌, ◌≡◌, ◌≤◌}
use Rattle.best_plan.specs.Best.{IsBestPlan}
use Rattle.commands.{proofs.KeptLemmas.asked_done, specs.AfterCall.IsCommandDone}
use Rattle.commands.specs.{Command.{clash_from, Made, written_files}, Kept.asked_of, Runs.IsRunOf}
use Rattle.commands.specs.SingleOutput.{clash_or, command_result, input_result, made_file}
use Rattle.commands.specs.SingleOutput.{most_frames, surveyed_result, task_result}
use Rattle.commands.specs.declared.fault.EditFault.{EditFault}
use Rattle.cut_edits.proofs.ChosenLemmas.{all-whole, all_right, IsLaidBy, IsRight, laid-parts}
use Rattle.cut_edits.proofs.ChosenLemmas.{laying-is}
use Rattle.cut_edits.specs.Chosen.{all_choice, chosen_needs, first_plan, first_planning}
use Rattle.cut_edits.specs.Chosen.{laying_making, placed_part}
use Rattle.frame_header.specs.Tables.{window_of}
use Rattle.laying.{proofs.SurveyFrameLemmas.survey-had, specs.{Fits.IsFittingPlan, Laid.file_laid}}
use Rattle.laying.specs.NeedsFit.{any_choice, IsPlacedSurvey}
use Rattle.outside.proofs.FilesLemmas.{with_file_here}
use Rattle.outside.specs.Files.{Contents, Files, Holds, IfTold, Told, Untold, with_file}
use Rattle.outside.specs.Seen.{Seen}
use Rattle.pack_edits.proofs.BestLemmas.{best-fitting, best-is, plain-plan}
use Rattle.pack_edits.proofs.{FileLengthLemmas.no-longer, LimitLemmas.limited-made}
use Rattle.pack_edits.proofs.{ModeLemmas.mode-fitting, PlanLemmas.{rows-same, rows-sound}}
use Rattle.pack_edits.proofs.PlanLengthLemmas.{best-least, plan-no_more}
use Rattle.pack_edits.specs.Fewest.{HasNoMoreLeadIns, IsFewestBytes, WritesFewest}
use Rattle.pack_edits.specs.Laws.{FewestBytes, NeverLonger}
use Rattle.pack_edits.specs.Modes.{best_planning, limited_result, most_best, pack_mode_command}
use Rattle.pack_edits.specs.Modes.{pack_task}
use Rattle.requests.specs.declared.mode.PackMode.{PackMode, TheVariants.{Best, Constant, Least}}
use Rattle.slot_plan.specs.declared.needs.Placed.{Placed}
use Rattle.sync_survey.proofs.PlacedRowLemmas.{survey_fields-placed}
use Rattle.sync_survey.{proofs.SurveyedFileLemmas.survey_of-parts, specs.Faults.SurveyFields}
use Rattle.sync_survey.specs.{Survey.survey_of, declared.survey_fault.SurveyFault.SurveyFault}

-- ---- what is written

-- no name clashes, the input is there without fault, all its frames are chosen, and these are their
-- bytes in the slots of their best plan
record IsMadeOf (input output : List ℕ) (files : Contents) (made : List ℕ) : Type 0 where
  apart : clash_from (output ∷ []) 0 (input ∷ []) ≡ None
  file : List ℕ
  there : files input ≡ Some file
  survey : SurveyFields
  surveyed : survey_of file most_frames ≡ Ok survey
  by : IsLaidBy all_choice best_planning file survey made

module _ (input output : List ℕ) (files : Contents) (made : List ℕ) where
  by-survey : clash_from (output ∷ []) 0 (input ∷ []) ≡ None → {file : List ℕ} → files input
      ≡ Some file → (r : Result SurveyFields SurveyFault) → survey_of file most_frames ≡ r
      → surveyed_result (laying_making all_choice best_planning) file r ≡ Ok made
      → IsMadeOf input output files made
  by-survey apart there (Err fault) surveyed e = absurd cc
  by-survey apart {file} there (Ok s) surveyed e = record {
    apart = apart;
    file = file;
    there = there;
    survey = s;
    surveyed = surveyed;
    by =
        laid-parts all_choice best_planning e;
  }

  by-there : clash_from (output ∷ []) 0 (input ∷ []) ≡ None → (o : Option (List ℕ))
      → files input ≡ o → input_result (laying_making all_choice best_planning) o ≡ Ok made
      → IsMadeOf input output files made
  unfolding made_file
  by-there apart None there e = absurd cc
  by-there apart (Some file) there e = by-survey apart there (survey_of file most_frames) refl e

  by-clash : (o : Option ℕ) → clash_from (output ∷ []) 0 (input ∷ []) ≡ o
      → clash_or o (limited_result (Some most_best) (files input)
      (input_result (laying_making all_choice best_planning) (files input))) ≡ Ok made
      → IsMadeOf input output files made
  by-clash (Some place) apart e = absurd cc
  by-clash None apart e = by-there apart (files input) refl (limited-made most_best (files input) e)

  made-of : task_result (pack_task Best input) output files ≡ Ok made
      → IsMadeOf input output files made
  unfolding task_result
  made-of e = by-clash (clash_from (output ∷ []) 0 (input ∷ [])) refl e

-- ---- the length of what is written

module _ {input output : List ℕ} {files : Contents} {best : List ℕ}
    (m : IsMadeOf input output files best) where
  right : IsRight m.by.chosen m.survey
  right = all_right m.file m.by.chose

  well : IsPlacedSurvey m.survey
  well = survey_fields-placed m.file most_frames (survey_of-parts m.file most_frames m.surveyed).1

  abbrev window : ℕ
  window = window_of m.survey.class.version

  fitting : IsFittingPlan window (chosen_needs m.by.chosen m.survey) m.by.placed
  fitting = (best-fitting m.by.chosen m.survey well
      right.some right.within m.by.planned).fitting

  best_plan : IsBestPlan window any_choice (chosen_needs m.by.chosen m.survey) m.by.placed
  best_plan = best-is m.by.chosen m.survey well right.some right.within m.by.planned

  by-other : (other : List Placed) → IsFittingPlan window (chosen_needs m.by.chosen m.survey) other
      → HasNoMoreLeadIns m.by.placed other
      → length best ≤ length (file_laid (placed_part m.by.chosen other) m.file m.survey)
  by-other other fits more =
      subst (λ (l : List ℕ). length l
      ≤ length (file_laid (placed_part m.by.chosen other) m.file m.survey)) m.by.is
      (no-longer (placed_part m.by.chosen m.by.placed) (survey-had
      most_frames m.surveyed) right.some right.within right.extension fitting fits
      (best-least window m.survey.class (chosen_needs m.by.chosen m.survey)
      (rows-sound m.by.chosen m.survey well right.some right.within) (rows-same m.by.chosen m.survey
      well right.some right.within) best_plan fitting.slots fits more))

  fewest-is : IsFewestBytes m.file best
  fewest-is =
      let whole = all-whole m.file m.survey {chosen = m.by.chosen} m.by.chose in
      record {
        survey = m.survey;
        surveyed = m.surveyed;
        laid = placed_part m.by.chosen m.by.placed;
        first = whole.0;
        last = whole.1;
        fits = fitting;
        is = sym m.by.is;
        fewest = by-other;
      }

  -- ---- the length of the plain packing

  abbrev plain : List Placed
  plain = first_plan any_choice m.survey.class (chosen_needs m.by.chosen m.survey)

  plain_made : task_result (pack_task Least input) output files
      ≡ Ok (file_laid (placed_part m.by.chosen plain) m.file m.survey)
  unfolding task_result made_file
  plain_made =
      let make = laying_making all_choice (first_planning any_choice) in
      ap (λ o. clash_or o (input_result make (files input))) m.apart
      ∙ ap (input_result make) m.there
      ∙ ap (surveyed_result make m.file) m.surveyed
      ∙ laying-is all_choice
      (first_planning any_choice) m.by.chose refl

  plain-longer : length best ≤ length (file_laid (placed_part m.by.chosen plain) m.file m.survey)
  plain-longer =
      by-other plain
      (mode-fitting m.by.chosen m.survey well right.some right.within Least refl).fitting
      (plan-no_more window m.by.placed plain best_plan
      (plain-plan m.by.chosen m.survey well right.some right.within))

-- ---- the laws

-- what `pack` writes is never shorter than what `pack --best` writes
pub longer-never : NeverLonger
longer-never = λ input output files best e.
    let m = made-of input output files best e in (
      file_laid (placed_part m.by.chosen (plain m)) m.file m.survey,
      plain_made m,
      plain-longer m,
    )

-- no plan by which the frames can be laid gives a shorter file than `pack --best`
pub bytes-fewest : FewestBytes
bytes-fewest = λ input output files best e.
    let m = made-of input output files best e in
    (m.file, m.there, fewest-is m)

-- ---- what is written

-- the one output holds what is made
one-held : (output : List ℕ) {made : List ℕ} (f : Contents) (r : Result (List ℕ) EditFault)
    {all : Made}
    {new : Files} → command_result output r ≡ Ok all → new ≡ Told (written_files all.outputs f)
    → Holds new output made → r ≡ Ok made
one-held output f (Err fault) e told holds = absurd cc
one-held output {made} f (Ok bytes) {all} e told holds =
    let same : record { outputs = record { name = output; bytes = bytes } ∷ []; text = [] } ≡ all =
    cc in
    let now : Holds (Told (with_file f output bytes)) output made =
    subst (λ (m : Made). Holds (Told (written_files m.outputs f)) output made) (sym same)
    (subst (λ (n : Files). Holds n output made) told holds) in
    let is : Some bytes ≡ Some made = sym (with_file_here f output bytes) ∙ now in
    cc

written-fewest : (input output : List ℕ) {file made : List ℕ} (old new : Files)
    → IfTold old (λ f. (all : Made) × ((pack_mode_command Best input output).makes f ≡ Ok all)
    × (new ≡ Told (written_files all.outputs f))) → Holds old input file → Holds new output made
    → IsFewestBytes file made
written-fewest input output (Untold touched) new done there holds = absurd there
written-fewest input output {file} {made} (Told f) new done there holds =
    let is = one-held output f
    (task_result (pack_task Best input) output f) done.1 done.2 holds in
    let least = bytes-fewest input output f made is in
    let same : least.0 ≡ file = let both : Some least.0 ≡ Some file = sym least.1 ∙ there in cc in
    subst (λ (l : List ℕ). IsFewestBytes l made) same least.2

-- what the command wrote has the fewest bytes
pub done-fewest : (mode : PackMode) {input output : List ℕ} {old new : Seen}
    → IsCommandDone (pack_mode_command mode input output) old new
    → WritesFewest mode input output old.files new.files
done-fewest Best {input} {output} {old} {new} done =
    λ file made there holds. written-fewest input output old.files new.files done.made there holds
done-fewest (Constant rate) done = tt
done-fewest _ done = tt

-- a run that was done wrote the fewest bytes
pub run-fewest : (keeps : Bool) (mode : PackMode) (input output : List ℕ) {old new : Seen}
    (answer : Result (Unit {0}) EditFault)
    → IsRunOf (asked_of keeps (pack_mode_command mode input output)) old new answer
    → OnOk answer (WritesFewest mode input output old.files new.files)
run-fewest keeps mode input output {old} {new} (Ok none) run = done-fewest mode
    (asked_done (pack_mode_command mode input output) keeps run.done)
run-fewest keeps mode input output (Err fault) run = tt
