-- What a command that makes one file makes, from its result.
use Rattle.std.proofs.Common.{ap₂, arith, length, List, None, Ok, Option, refl, Result, Some, ℕ, []}
use Rattle.std.proofs.{Common.{◌<◌, ◌∷◌, ◌≡◌}, lemmas.List.length-map}
use Rattle.commands.{proofs.InputLemmas.{made-survey, made_parts}, specs.Command.Made}
use Rattle.commands.specs.SingleOutput.{clash_in, clash_or, command_result, input_result, Making}
use Rattle.commands.specs.SingleOutput.{most_frames, one_command, Task, task_result}
use Rattle.commands.specs.declared.fault.EditFault.{EditFault}
use Rattle.outside.specs.Files.{Contents}
use Rattle.sync_survey.proofs.FaultsLemmas.{length-marked_rows}
use Rattle.sync_survey.proofs.SurveyPartsLemmas.{some_frames, survey_fields-parts}
use Rattle.sync_survey.{proofs.SurveyedFileLemmas.survey_of-parts, specs.Faults.SurveyFields}
use Rattle.sync_survey.specs.Survey.{survey_of}

-- ---- one output

one_parts : (output : List ℕ) {clash : Option ℕ} {r : Result (List ℕ) EditFault} {made : Made}
    → command_result output (clash_or clash r) ≡ Ok made
    → (clash ≡ None) × (bytes : List ℕ) × (r ≡ Ok bytes)
one_parts output e = grind arith

-- a command that isn't refused has no clash, and makes some bytes
pub makes-parts : (task : Task) (output : List ℕ) {files : Contents} {made : Made}
    → (one_command task output).makes files ≡ Ok made
    → (clash_in task output ≡ None) × (bytes : List ℕ) × (task.makes files ≡ Ok bytes)
unfolding task_result
makes-parts task output {made = made} e = grind (arith, one_parts, made)

-- a command without a clash that makes some bytes isn't refused
pub parts-make : (task : Task) (output : List ℕ) {files : Contents} {bytes : List ℕ}
    → clash_in task output ≡ None → task.makes files ≡ Ok bytes
    → (made : Made) × ((one_command task output).makes files ≡ Ok made)
unfolding task_result
parts-make task output {bytes = bytes} free is = (
  record { outputs = record { name = output; bytes = bytes } ∷ []; text = [] },
  ap₂ (λ (o : Option ℕ) (r : Result (List ℕ) EditFault). command_result output (clash_or o r)) free
      is,
)

-- ---- one input

-- the file, its survey, and the bytes that are made of them
pub record IsMadeOf (make : Making) (files : Contents) (name : List ℕ) : Type 0 where
  pub file : List ℕ
  pub survey : SurveyFields
  pub there : files name ≡ Some file
  pub surveyed : survey_of file most_frames ≡ Ok survey
  pub bytes : List ℕ
  pub made : make file survey ≡ Ok bytes

file-parts : {make : Making} {files : Contents} {name bytes : List ℕ} {o : Option (List ℕ)}
    → files name ≡ o → input_result make o ≡ Ok bytes → IsMadeOf make files name
file-parts there e = grind (arith, made_parts)

-- bytes that are made of the file with a name are made by its survey
pub made-of : {make : Making} {files : Contents} {name bytes : List ℕ}
    → input_result make (files name) ≡ Ok bytes → IsMadeOf make files name
made-of {make} {files} {name} {bytes} e = file-parts refl e

-- what is made of a surveyed file with a name is made by its survey
pub of-made : (make : Making) (files : Contents) {name file : List ℕ} {s : SurveyFields}
    → files name ≡ Some file → survey_of file most_frames ≡ Ok s
    → input_result make (files name) ≡ make file s
of-made make files there surveyed = grind (arith, there, made-survey, surveyed)

-- ---- a surveyed file has a frame

-- a surveyed file has a frame
pub some-frames : (file : List ℕ) (allowed : ℕ) {s : SurveyFields} → survey_of file allowed ≡ Ok s
    → 0 < length s.frames
some-frames file allowed e =
    grind (arith, survey_fields-parts, survey_of-parts, length-marked_rows, length-map, some_frames)
