-- What a command that sends a text of one file leaves, given the survey of its input.
use Rattle.std.proofs.Common.{ap, ap₂, arith, Err, List, Ok, refl, Result, Some, sym, ℕ, [], ◌∙◌}
use Rattle.std.{proofs.Common.◌≡◌, specs.{Prelude.{IfErr, OnErr, OnOk}, Result.IsErrAnd}}
use Rattle.commands.proofs.{MakeLemmas.{made-same, ok_made}, SurveyedLemmas.BeginsWithSurvey}
use Rattle.commands.proofs.TellingLemmas.{says-all, says-prefix}
use Rattle.commands.specs.AfterCall.{HasSurveyNumbers, IsCommandDone, IsCommandFault, TakesMemory}
use Rattle.commands.specs.Command.{HasAnswer, HoldsStreams, Made, MakesStreams, written_files}
use Rattle.commands.specs.SentText.{answer_fault, IsCommandText, SaysText}
use Rattle.commands.specs.{SingleOutput.most_frames, declared.fault.EditFault.EditFault}
use Rattle.commands.specs.declared.fault.EditFault.TheVariants.{Memory, Sent as NotSent}
use Rattle.list_edits.specs.TextCommand.{input_text, IsTextRun, surveyed_text, text_command}
use Rattle.outside.{proofs.FilesLemmas.{there_holds, touches_none}, specs.BufferOutput.SentPrefix}
use Rattle.outside.specs.Counts.{Counts, HasCause, OnlyReads}
use Rattle.outside.specs.Files.{Contents, Files, Holds, IfTold, IsFileThere, sent_and_more, Told}
use Rattle.outside.specs.{Files.Untold, Seen.{Heard, Seen, seen_folder}}
use Rattle.sync_survey.proofs.SurveyPartsLemmas.{survey_fields-allowed}
use Rattle.sync_survey.proofs.SurveyedFileLemmas.{survey_of-parts}
use Rattle.sync_survey.specs.{Faults.{IsWellFormed, SurveyFields}, Survey.survey_of}
use Rattle.sync_survey.specs.declared.survey_fault.SurveyFault.{SurveyFault}

-- ---- the last step

-- what holds if all was sent, and if a write failed, holds of every result of the last step
pub told_by : {T : Type 0} (P : Result T EditFault → Type 0) → ((x : T) → P (Ok x))
    → P (Err NotSent) → {result : Result T EditFault} → IfErr result (λ fault. fault ≡ NotSent)
    → P result
told_by P all part is = grind arith

-- ---- what the contents of the files make of the command

module _ (text : List ℕ → SurveyFields → List ℕ) (input : List ℕ) where
  gives_survey : (f : Contents) {bytes : List ℕ} {r : Result SurveyFields SurveyFault}
      → f input ≡ Some bytes → survey_of bytes most_frames ≡ r
      → (text_command text input).makes f ≡ surveyed_text (text bytes) r
  gives_survey f {bytes} holds is = ap (input_text text) holds ∙ ap (surveyed_text (text bytes)) is

  gives_bytes : (files : Files) {answer : Result Made EditFault} → IsFileThere files input
      → ((bytes : List ℕ) → Holds files input bytes
      → surveyed_text (text bytes) (survey_of bytes most_frames) ≡ answer)
      → HasAnswer (text_command text input) files answer
  gives_bytes files there is = grind arith

  -- the command begins with the survey of its input
  pub begins : BeginsWithSurvey (text_command text input) input
  begins = record {
    first = refl;
    names = refl;
    absent = λ f is. ap (input_text text) is;
    refused = λ f bytes fault held is. gives_survey f held is;
    takes = λ f bytes s held is. rw (gives_survey f held is) tt;
  }

-- ---- a file without fault, with this text

-- The input is there, has this survey, and this is its text.
pub record HasText (text : List ℕ → SurveyFields → List ℕ) (input : List ℕ) (files : Files)
    (s : SurveyFields) (said : List ℕ) : Type 0 where
  pub there : IsFileThere files input
  pub surveyed : (bytes : List ℕ) → Holds files input bytes → survey_of bytes most_frames ≡ Ok s
  pub text_is : (bytes : List ℕ) → Holds files input bytes → text bytes s ≡ said

-- All of this text was sent or, if a write failed, a prefix.
pub record IsTold {T : Type 0} (said : List ℕ) (old new : Heard) (result : Result T EditFault)
    : Type 0 where
  pub fault : IfErr result (λ fault. fault ≡ NotSent)
  pub sent : OnOk result (new.sent ≡ sent_and_more old.sent said)
  pub prefix : OnErr result (SentPrefix said old.sent new.sent)
  pub cause : HasCause old.faults new.faults result

-- what is made of a file with this text
abbrev made_of : List ℕ → Made
made_of said = record { outputs = []; text = said }

module _ {text : List ℕ → SurveyFields → List ℕ} {input : List ℕ} {files : Files}
    {s : SurveyFields} {said : List ℕ} (has : HasText text input files s said) where
  gives : HasAnswer (text_command text input) files (Ok (made_of said))
  gives = grind (arith, gives_bytes, has.there, has.surveyed, has.text_is)

  -- if no count changed, the command is done
  pub is_done : {new : Files} {counts after : Counts} → new ≡ files → after ≡ counts
      → IsCommandDone (text_command text input) (seen_folder files counts) (seen_folder new after)
  is_done {new} same done = record {
    made = at files same gives;
    touches = rw same (touches_none [] files);
    counts = done;
  }
    where
      at : (fs : Files) → new ≡ fs → HasAnswer (text_command text input) fs (Ok (made_of said))
          → IfTold fs (λ f. (made : Made) × ((text_command text input).makes f ≡ Ok made)
          × (new ≡ Told (written_files made.outputs f)))
      at (Untold touched) e g = tt
      at (Told f) e g = (made_of said, g, e)

  -- if a write to standard output failed, the command leaves what it may
  pub unsent : {new : Files} {counts after : Counts} → new ≡ files → after ≡ counts
      → IsCommandFault (text_command text input) (seen_folder files counts)
      (seen_folder new after) NotSent
  unsent same done = is_done same done

  -- if memory runs out for what is sent, the command leaves what it may
  pub no_room : {new : Files} {counts after : Counts} → new ≡ files → after ≡ counts
      → IsCommandFault (text_command text input) (seen_folder files counts)
      (seen_folder new after) Memory
  no_room same done =
      record { names = refl; takes = at files gives; stays = ap₂ seen_folder same done }
    where
      at : (fs : Files) → HasAnswer (text_command text input) fs (Ok (made_of said))
          → IfTold fs (λ f. TakesMemory ((text_command text input).makes f))
      at (Untold touched) g = tt
      at (Told f) g = rw g tt

  -- the command writes no output, so its streams hold
  pub holds_streams : HoldsStreams (text_command text input) files
  holds_streams = at files has.there has.surveyed gives
    where
      none_written : (f : Contents) {bytes : List ℕ} → f input ≡ Some bytes → IsWellFormed bytes
          → (made : Made) → ok_made (made_of said) ≡ ok_made made
          → MakesStreams (text_command text input) f made
      none_written f {bytes} holds sound made e =
          rw (← (made-same e))
          (record { sources = ((bytes, holds, sound), tt); streams = tt })

      at : (fs : Files) → IsFileThere fs input
          → ((bytes : List ℕ) → Holds fs input bytes → survey_of bytes most_frames ≡ Ok s)
          → HasAnswer (text_command text input) fs (Ok (made_of said))
          → HoldsStreams (text_command text input) fs
      at (Untold touched) there is g = tt
      at (Told f) there is g =
          let held = there_holds f there in
          let parts = survey_of-parts held.0 most_frames (is held.0 held.1) in
          λ made e. none_written f held.1 (
            s,
            survey_fields-allowed held.0 most_frames (omega arith) parts.1,
          ) made (sym g ∙ e)

  -- the text of the command is this one
  only_text : {told : List ℕ} → IsCommandText (text_command text input) files told → said ≡ told
  only_text h = grind (arith, has.there, has.surveyed, has.text_is)

  -- all of the text was sent or, if a write failed, a prefix
  pub says : {T : Type 0} {old new : Heard} {result : Result T EditFault}
      → IsTold said old new result
      → SaysText (text_command text input) files old new (answer_fault result)
  says told = grind (
    arith,
    told_by,
    says-all,
    only_text,
    says-prefix,
    told.fault,
    told.sent,
    told.prefix,
    told.cause,
  )

-- ---- a call that is refused before anything is sent

-- a run that the survey refuses: nothing was sent, and the files stay
pub refused_run : (text : List ℕ → SurveyFields → List ℕ) {input : List ℕ} {old new : Seen}
    (heard : Heard) {answer : Result (Unit {0}) EditFault} (fault : EditFault)
    → IsErrAnd answer (λ y. y ≡ fault) → IsCommandFault (text_command text input) old new fault
    → HasSurveyNumbers 0 fault → new.files ≡ old.files → OnlyReads old.counts new.counts
    → IsTextRun (text_command text input) old new heard heard answer
refused_run text heard fault is left of files counts = grind arith
