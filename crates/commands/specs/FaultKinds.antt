-- The fault of a command's input, by the kind of the survey's fault.
pub use Rattle.sync_survey.specs.SurveyFaultKinds.{by_kind, ByKind, HasRightNumbers, InputKind}
pub use Rattle.sync_survey.specs.SurveyFaultKinds.{IsAbsent, IsFromOutside, IsRefused, IsShorter}
pub use Rattle.sync_survey.specs.SurveyFaultKinds.{IsTooMuch, IsUnread, kind_of, shrunk_end}
use Rattle.std.specs.Prelude.{ℕ}
use Rattle.commands.specs.declared.fault.EditFault.{EditFault}
use Rattle.commands.specs.declared.fault.EditFault.TheVariants.{Input, Memory as NoMemory}
use Rattle.sync_survey.specs.declared.survey_fault.SurveyFault.{SurveyFault}

-- the fault of an input of a command, counted from 0; running out of memory is a fault of its own
abbrev pub survey_edit_fault : ℕ → SurveyFault → EditFault
survey_edit_fault number fault =
    by_kind (record {
      absent = Input number fault;
      unread = Input number fault;
      shorter = Input number fault;
      too_much = NoMemory;
      refused = Input number fault;
    }) (kind_of fault)

-- the fault of a command's one input
abbrev pub input_edit_fault : SurveyFault → EditFault
input_edit_fault fault = survey_edit_fault 0 fault
