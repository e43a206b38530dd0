-- What a survey of a file returns.
use Rattle.std.specs.Prelude.{IfErr, IfOk, length, List, OnOk, Result, ℕ, ◌≡◌, ◌≤◌}
use Rattle.outside.specs.{Counts.OnlyReads, Files.IsFileThere, Seen.Seen}
use Rattle.sync_survey.specs.Faults.{survey_view}
use Rattle.sync_survey.specs.Survey.{HoldsOctets, IsFirstFault, IsSurveyFault, IsSurveyLaidOut}
use Rattle.sync_survey.specs.Survey.{IsSurveyOf, IsSurveyRefusal, IsWholeSurvey}
use Rattle.sync_survey.specs.SurveyFaultKinds.{HasRightNumbers}
use Rattle.sync_survey.specs.declared.{survey_fault.SurveyFault.SurveyFault, surveys.Survey.Survey}

-- A file was surveyed from some point on: the survey, or why there is none.
pub record FramesAnswer (name : List ℕ) (allowed : ℕ) (old new : Seen)
    (result : Result Survey SurveyFault) : Type 0 where
  pub surveyed : IfOk result (λ s. IsWholeSurvey name old.files allowed (survey_view s))
  pub done : OnOk result (new.counts ≡ old.counts)
  pub refused : IfErr result (IsSurveyRefusal name old.files allowed old.counts new.counts)
  pub files : new.files ≡ old.files
  pub counts : OnlyReads old.counts new.counts

-- A file was surveyed: the survey, or the first fault.
pub record SurveyAnswer (name : List ℕ) (allowed : ℕ) (old new : Seen)
    (result : Result Survey SurveyFault) : Type 0 where
  pub exact : IfOk result (λ s. IsSurveyOf name old.files allowed (survey_view s))
  -- whether or not the content of the files is known: where head, frames and blocks are, that there
  -- is a frame, and that the main data of the frames are where they may be
  pub laid : IfOk result (λ s. IsSurveyLaidOut (survey_view s))
  pub few : IfOk result (λ s. length (survey_view s).frames ≤ allowed)
  pub there : OnOk result (IsFileThere old.files name)
  pub octets : OnOk result (HoldsOctets name old.files)
  pub done : OnOk result (new.counts ≡ old.counts)
  pub refused : IfErr result (IsSurveyFault name old.files allowed old.counts new.counts)
  pub numbers : IfErr result HasRightNumbers
  -- no fault of the bytes is before the one that is returned
  pub first : IfErr result (IsFirstFault name old.files allowed)
  pub files : new.files ≡ old.files
  pub counts : OnlyReads old.counts new.counts
