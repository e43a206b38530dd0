-- The fault of a pass over an input, as a fault of a command.
use Rattle.std.specs.Prelude.{ℕ}
use Rattle.commands.specs.declared.fault.EditFault.{EditFault}
use Rattle.commands.specs.declared.fault.EditFault.TheVariants.{Input, Write as Unwritten}
use Rattle.outside.specs.declared.pass.PassFault.{PassFault, TheVariants.{Read, Shrunk, Write}}
use Rattle.sync_survey.specs.declared.survey_fault.SurveyFault.TheVariants.{Read as Unread}
use Rattle.sync_survey.specs.declared.survey_fault.SurveyFault.TheVariants.{Shrunk as Shorter}

-- the fault of a pass over this input that writes this output, both counted from 0
abbrev pub pass_edit_fault : ℕ → ℕ → PassFault → EditFault
pass_edit_fault input output Read = Input input Unread
pass_edit_fault input output (Shrunk first second) = Input input (Shorter first second)
pass_edit_fault input output Write = Unwritten output
