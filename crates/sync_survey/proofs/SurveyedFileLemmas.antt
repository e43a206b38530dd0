-- What the survey of a file that isn't too long says.
use Rattle.std.proofs.Common.{arith, Bool, cond, Err, length, List, ltb, Ok, Result, ℕ, ◌≡◌, ◌≤◌}
use Rattle.sync_survey.proofs.SurveyPartsLemmas.{survey_fields-allowed}
use Rattle.sync_survey.specs.Faults.{IsWellFormed, longest_file, survey_fields, SurveyFields}
use Rattle.sync_survey.specs.{Survey.survey_of, declared.survey_fault.SurveyFault.SurveyFault}

long_cases : {long : Bool} (file : List ℕ) {r : Result SurveyFields SurveyFault}
    (fault : SurveyFault) {s : SurveyFields} → ltb longest_file (length file) ≡ long
    → cond long (Err fault) r ≡ Ok s → (length file ≤ longest_file) × (r ≡ Ok s)
long_cases file fault is e = grind arith

-- a surveyed file isn't too long, and its bytes have this survey
pub survey_of-parts : (file : List ℕ) (allowed : ℕ) {s : SurveyFields}
    → survey_of file allowed ≡ Ok s
    → (length file ≤ longest_file) × (survey_fields file allowed ≡ Ok s)
unfolding survey_of
survey_of-parts file allowed e = grind (arith, long_cases)

-- a surveyed file is well-formed
pub survey_of-sound : (file : List ℕ) (allowed : ℕ) {s : SurveyFields}
    → survey_of file allowed ≡ Ok s → IsWellFormed file
survey_of-sound file allowed {s} e = (
  s,
  survey_fields-allowed file allowed (omega arith)
      (survey_of-parts file allowed e).1,
)
