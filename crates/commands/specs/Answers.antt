-- What the steps before the output return and leave.
use Rattle.std.specs.Prelude.{IfErr, IfOk, length, List, Ok, OnOk, Result, ℕ, ◌≡◌, ◌≤◌}
use Rattle.bit_fields.specs.Bits.{AreBytes}
use Rattle.commands.specs.{AfterCall.HasSurveyNumbers, Sheet.{HasSheetNumbers, IsSheetFault}}
use Rattle.commands.specs.{SingleOutput.IsFileFault, declared.fault.EditFault.EditFault}
use Rattle.outside.specs.{Files.IsFileThere, Seen.{OnFile, OnlyRead, Seen}}
use Rattle.sync_survey.specs.{Faults.survey_view, Survey.{IsSurveyLaidOut, survey_of}}
use Rattle.sync_survey.specs.declared.surveys.Survey.{Survey}

-- An input, counted from 0, was surveyed, with at most `allowed` frames, or it is at fault.
pub record InputSurvey (number allowed : ℕ) (name : List ℕ) (old new : Seen)
    (result : Result Survey EditFault) : Type 0 where
  pub there : OnOk result (IsFileThere old.files name)
  pub surveyed : IfOk result
      (λ s. OnFile old name (λ bytes. survey_of bytes allowed ≡ Ok (survey_view s)))
  pub laid : IfOk result (λ s. IsSurveyLaidOut (survey_view s))
  pub few : IfOk result (λ s. length (survey_view s).frames ≤ allowed)
  -- if its content is known, it consists of bytes
  pub octets : OnOk result (OnFile old name AreBytes)
  pub refused : IfErr result (IsFileFault number allowed name old new)
  pub numbers : IfErr result (HasSurveyNumbers number)
  pub reads : OnlyRead result old new

-- A sheet was looked up or read: it is there, or it is at fault.
pub record SheetAnswer {T : Type 0} (name : List ℕ) (old new : Seen)
    (result : Result T EditFault) : Type 0 where
  pub there : OnOk result (IsFileThere old.files name)
  pub refused : IfErr result (IsSheetFault name old new)
  pub numbers : IfErr result HasSheetNumbers
  pub reads : OnlyRead result old new
