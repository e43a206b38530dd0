-- A command that reads one file and sends a text of it. It writes no file.
use Rattle.std.specs.Prelude.{Err, false, IfErr, List, None, Ok, OnOk, Option, Result, Some, ℕ, []}
use Rattle.std.specs.Prelude.{◌∷◌, ◌≡◌}
use Rattle.commands.specs.AfterCall.{HasNumbers, IsCommandDone, IsCommandFault}
use Rattle.commands.specs.{Command.{Command, HoldsStreams, Made}, SentText.{answer_fault, SaysText}}
use Rattle.commands.specs.{SingleOutput.most_frames, declared.fault.EditFault.EditFault}
use Rattle.commands.specs.declared.fault.EditFault.TheVariants.{Input}
use Rattle.outside.specs.{Counts.OnlyReads, Seen.{Heard, Seen}}
use Rattle.sync_survey.specs.{Faults.SurveyFields, Survey.survey_of}
use Rattle.sync_survey.specs.declared.survey_fault.SurveyFault.{SurveyFault, TheVariants.Absent}

-- the text of a survey, or its fault
abbrev pub surveyed_text : (SurveyFields → List ℕ) → Result SurveyFields SurveyFault
    → Result Made EditFault
surveyed_text text (Err fault) = Err (Input 0 fault)
surveyed_text text (Ok s) = Ok (record { outputs = []; text = text s })

-- the text of a file, given its bytes and their survey, if the file is there
abbrev pub input_text : (List ℕ → SurveyFields → List ℕ) → Option (List ℕ) → Result Made EditFault
input_text text None = Err (Input 0 Absent)
input_text text (Some file) = surveyed_text (text file) (survey_of file most_frames)

-- nothing is written to the folder, and the text is the input's
abbrev pub text_command : (List ℕ → SurveyFields → List ℕ) → List ℕ → Command
text_command text input = record {
  inputs = input ∷ [];
  outputs = [];
  sources = input ∷ [];
  always = None;
  keeps = false;
  makes = λ files. input_text text (files input);
  streams = λ files. [];
  refuses = λ refusal. false;
}

-- What the call of such a command guarantees, whatever it returns.
pub record IsTextRun (command : Command) (old new : Seen) (heard now : Heard)
    (answer : Result (Unit {0}) EditFault) : Type 0 where
  pub done : OnOk answer (IsCommandDone command old new)
  pub left : IfErr answer (IsCommandFault command old new)
  -- the text; a prefix of it was sent if a write failed
  pub says : SaysText command old.files heard now (answer_fault answer)
  -- the fault's numbers are right also over a folder whose contents aren't known
  pub numbers : IfErr answer (HasNumbers command)
  -- the input is well-formed
  pub streams : OnOk answer (HoldsStreams command old.files)
  pub files : new.files ≡ old.files
  pub counts : OnlyReads old.counts new.counts
