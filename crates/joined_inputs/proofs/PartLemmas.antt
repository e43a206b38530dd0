-- What an input of a join is if it isn't refused.
use Rattle.std.proofs.Common.{Bool, cond, Err, false, List, None, Ok, Option, refl, Result, Some}
use Rattle.std.proofs.Common.{true, ℕ, ◌≡◌}
use Rattle.commands.specs.declared.fault.{EditFault.TheVariants.Refused, Refusal.TheVariants.Differ}
use Rattle.frame_header.{proofs.ClassLemmas.same_class-is, specs.Fields.ClassFields}
use Rattle.joined_inputs.specs.Inputs.{HasClassOfFirst}
use Rattle.joined_inputs.specs.Parts.{join_part, may_join, surveyed_part, whole_part}
use Rattle.laying.specs.Relaid.{FilePart}
use Rattle.sync_survey.specs.{Faults.SurveyFields, Survey.survey_of}
use Rattle.sync_survey.specs.declared.survey_fault.SurveyFault.{SurveyFault}

may-follows : (first : Option ClassFields) (class : ClassFields) → may_join first class ≡ true
    → HasClassOfFirst first class
may-follows None class may = tt
may-follows (Some first) class may = same_class-is may

-- the input's file, its survey, and its frames, which are of the class of those before it
pub record IsPart (first : Option ClassFields) (allowed : ℕ) (o : Option (List ℕ))
    (part : FilePart) : Type 0 where
  pub file : List ℕ
  pub survey : SurveyFields
  pub there : o ≡ Some file
  pub surveyed : survey_of file allowed ≡ Ok survey
  pub follows : HasClassOfFirst first survey.class
  pub whole : whole_part file survey ≡ part

-- a part that isn't refused is such a part
pub part-is : (number : ℕ) {first : Option ClassFields} {allowed : ℕ} (o : Option (List ℕ))
    {part : FilePart} → join_part number first allowed o ≡ Ok part → IsPart first allowed o part
part-is number None e = absurd cc
part-is number {first} {allowed} (Some file) {part} e =
    at (survey_of file allowed) refl e
  where
    made : (s : SurveyFields) → survey_of file allowed ≡ Ok s → (b : Bool)
        → may_join first s.class ≡ b
        → cond b (Ok (whole_part file s)) (Err (Refused (Differ number))) ≡ Ok part
        → IsPart first allowed (Some file) part
    made s surveyed true may e = record {
      file = file;
      survey = s;
      there = refl;
      surveyed = surveyed;
      follows = may-follows first s.class may;
      whole = cc;
    }
    made s surveyed false may e = absurd cc

    at : (r : Result SurveyFields SurveyFault) → survey_of file allowed ≡ r
        → surveyed_part number first file r ≡ Ok part → IsPart first allowed (Some file) part
    at (Err fault) surveyed e = absurd cc
    at (Ok s) surveyed e = made s surveyed (may_join first s.class) refl e
