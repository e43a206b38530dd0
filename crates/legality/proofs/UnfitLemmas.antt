-- When a packing with one bit rate is refused with `Unfit`.
use Rattle.std.proofs.Common.{ap₂, Err, List, None, Ok, Option, refl, Result, Some, ℕ, [], ◌∙◌, ◌∷◌}
use Rattle.std.proofs.Common.{◌≡◌}
use Rattle.commands.proofs.MadeLemmas.{of-made}
use Rattle.commands.specs.SingleOutput.{clash_in, clash_or, command_result, input_result, made_file}
use Rattle.commands.specs.SingleOutput.{Making, most_frames, surveyed_result, Task, task_result}
use Rattle.commands.specs.declared.fault.EditFault.{EditFault, TheVariants.Refused}
use Rattle.commands.specs.declared.fault.Refusal.TheVariants.{Unfit}
use Rattle.cut_edits.specs.Chosen.{all_choice, laying_making}
use Rattle.legality.proofs.InputLemmas.{apart_no-clash, no-clash_apart, survey-whole, whole-survey}
use Rattle.legality.proofs.PackLemmas.{made-unfit, rate-none, unfit-made}
use Rattle.legality.specs.{Laws.UnfitIsRefused, Legal.IsUnfitFor}
use Rattle.outside.specs.Files.{Contents}
use Rattle.pack_edits.specs.{Modes.{pack_mode_command, pack_task}, Rates.rates_plan}
use Rattle.requests.specs.declared.mode.PackMode.TheVariants.{Constant}
use Rattle.sync_survey.specs.{Faults.SurveyFields, Survey.survey_of}
use Rattle.sync_survey.specs.declared.survey_fault.SurveyFault.{SurveyFault}

module _ (files : Contents) (rate i : ℕ) (input output : List ℕ) where
  abbrev make : Making
  make = laying_making all_choice (rates_plan (Constant rate))

  abbrev task : Task
  task = pack_task (Constant rate) input

  -- it is refused with `Unfit`
  abbrev unfit : {A : Type 0} → Result A EditFault
  unfit = Err (Refused (Unfit i))

  unfit-refused : IsUnfitFor rate input output files i
      → (pack_mode_command (Constant rate) input output).makes files ≡ unfit
  unfolding task_result
  unfit-refused is =
      let file = is.read.bytes in
      let s = is.read.survey in
      let surveyed = whole-survey
      (record { long = is.is.long; well_formed = is.is.well_formed; few = is.few }) in
      let made = of-made make files is.is.there surveyed
      ∙ unfit-made file surveyed rate (rate-none s.class is.named) is.unfit in
      ap₂ (λ (o : Option ℕ) (r : Result (List ℕ) EditFault). command_result output (clash_or o r))
      (apart_no-clash (output ∷ []) (input ∷ []) 0 is.names) made

  clash-free : (clash : Option ℕ) (r : Result (List ℕ) EditFault)
      → command_result output (clash_or clash r) ≡ unfit → (clash ≡ None) × (r ≡ unfit)
  clash-free (Some place) r e = absurd cc
  clash-free None (Ok bytes) e = absurd cc
  clash-free None (Err fault) e = (refl, cc)

  read-unfit : (o : Option (List ℕ)) → files input ≡ o → input_result make o ≡ unfit
      → (file : List ℕ) × (s : SurveyFields) × (files input ≡ Some file)
      × (survey_of file most_frames ≡ Ok s) × (make file s ≡ unfit)
  unfolding made_file
  read-unfit None there e = absurd cc
  read-unfit (Some file) there e = at (survey_of file most_frames) refl e
    where
      at : (r : Result SurveyFields SurveyFault) → survey_of file most_frames ≡ r
          → surveyed_result make file r ≡ unfit → (file : List ℕ) × (s : SurveyFields)
          × (files input ≡ Some file) × (survey_of file most_frames ≡ Ok s) × (make file s ≡ unfit)
      at (Err fault) surveyed e = absurd cc
      at (Ok s) surveyed e = (file, s, there, surveyed, e)

  refused-unfit : (pack_mode_command (Constant rate) input output).makes files ≡ unfit
      → IsUnfitFor rate input output files i
  unfolding task_result
  refused-unfit e =
      let free = clash-free (clash_in task output) (task.makes files) e in
      let read = read-unfit (files input) refl free.1 in
      let whole = survey-whole read.3 in
      let legal = made-unfit read.0 read.3 read.4 in
      record {
        names = no-clash_apart (output ∷ []) (input ∷ []) 0 free.0;
        read = record { bytes = read.0; survey = read.1 };
        is = record { there = read.2; long = whole.long; well_formed = whole.well_formed };
        few = whole.few;
        named = legal.0;
        unfit = legal.1;
      }

-- a packing with one bit rate is refused with `Unfit` exactly where no list of its slots has room
pub unfit-is-refused : UnfitIsRefused
unfit-is-refused = λ files rate i input output.
    (unfit-refused files rate i input output, refused-unfit files rate i input output)
