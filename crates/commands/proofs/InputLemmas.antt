-- A command that reads one file: the faults of its input, and what it makes of the file.
use Rattle.std.proofs.Common.{ap, arith, Bool, Err, false, IfErr, length, List, Ok, Option, refl}
use Rattle.std.proofs.Common.{Result, Some, sym, unwrap_or, ℕ, [], ◌∙◌, ◌∷◌, ◌≡◌, ◌≤◌}
use Rattle.bit_fields.specs.Bits.{AreBytes}
use Rattle.commands.proofs.NamedLemmas.{lost_name, missed_name, unread_name}
use Rattle.commands.proofs.{RefusingLemmas.before_first, WhyLemmas.{each_refusal, each_why}}
use Rattle.commands.specs.AfterCall.{HasInputNumbers, HasSurveyNumbers, is_before_memory}
use Rattle.commands.specs.{AfterCall.{IsEditRefusal, IsLateFault}, Command.AreSoundFiles}
use Rattle.commands.specs.FaultKinds.{HasRightNumbers, survey_edit_fault}
use Rattle.commands.specs.SingleOutput.{file_task, HasTaskNumbers, input_result, IsEarlyFault}
use Rattle.commands.specs.SingleOutput.{IsFileFault, IsInputFault, IsMaking, IsProperTask}
use Rattle.commands.specs.SingleOutput.{made_file, Making, most_frames, surveyed_result}
use Rattle.commands.specs.{SingleOutput.TaskRefuses, declared.fault.EditFault.EditFault}
use Rattle.commands.specs.declared.fault.{EditFault.TheVariants.{Input, Memory}, Refusal.Refusal}
use Rattle.outside.specs.{Files.{Contents, Files, Holds, IfTold, IsFileThere}, Seen.Seen}
use Rattle.sync_survey.proofs.BytesFaultLemmas.{IsOfBytes, survey_fields-of_bytes}
use Rattle.sync_survey.proofs.FoldersLemmas.{survey_of-short}
use Rattle.sync_survey.proofs.SurveyedFileLemmas.{survey_of-parts, survey_of-sound}
use Rattle.sync_survey.specs.Faults.{HoldsStream, longest_file, SurveyFields}
use Rattle.sync_survey.specs.{MainData.StreamFrame, Survey.{IsSurveyFault, survey_of}}
use Rattle.sync_survey.specs.declared.survey_fault.SurveyFault.{SurveyFault}

-- ---- the survey of the input

-- a fault of the survey is one of the input
pub file_fault : (number allowed : ℕ) (name : List ℕ) (old new : Seen) (fault : SurveyFault)
    → new.files ≡ old.files → IsSurveyFault name old.files allowed old.counts new.counts fault
    → IsFileFault number allowed name old new (survey_edit_fault number fault)
file_fault number allowed name old new fault same h = grind arith

-- a fault of the survey has the number of the input, and right numbers
pub survey_numbers : (number : ℕ) (fault : SurveyFault) → HasRightNumbers fault
    → HasSurveyNumbers number (survey_edit_fault number fault)
survey_numbers number fault right = grind arith

made-fault : (make : Making) (bytes : List ℕ) {fault : SurveyFault}
    → survey_of bytes most_frames ≡ Err fault → made_file make bytes ≡ Err (Input 0 fault)
unfolding made_file
made-fault make bytes is = ap (surveyed_result make bytes) is

-- what is made of a surveyed file is made by its survey
pub made-survey : (make : Making) {bytes : List ℕ} {s : SurveyFields}
    → survey_of bytes most_frames ≡ Ok s → made_file make bytes ≡ make bytes s
unfolding made_file
made-survey make {bytes} is = ap (surveyed_result make bytes) is

-- a file that something was made of has a survey, by which it was made
pub made_parts : (make : Making) {file new : List ℕ} → made_file make file ≡ Ok new
    → (s : SurveyFields) × (survey_of file most_frames ≡ Ok s) × (make file s ≡ Ok new)
unfolding made_file
made_parts make {file} {new} e = at (survey_of file most_frames) refl e
  where
    at : (r : Result SurveyFields SurveyFault) → survey_of file most_frames ≡ r
        → surveyed_result make file r ≡ Ok new
        → (s : SurveyFields) × (survey_of file most_frames ≡ Ok s) × (make file s ≡ Ok new)
    at (Err fault) is e = absurd cc
    at (Ok s) is e = (s, is, e)

-- a fault of the file is one of the only input, whatever the command makes of it
module _ (make : Making) (name : List ℕ) (old new : Seen) (fault : EditFault) where
  -- a fault of the file is one of the input
  pub fault_is_input : IsFileFault 0 most_frames name old new fault
      → IsInputFault make name old new fault
  fault_is_input h = search (arith, each_why, each_refusal, made-fault)

-- a fault of the survey is one of the input
pub of_survey_input : (refuses : Refusal → Bool) (fault : EditFault) → HasSurveyNumbers 0 fault
    → HasInputNumbers refuses fault
of_survey_input refuses fault is = grind arith

-- ---- what the command decides about the input

module _ (make : Making) (name : List ℕ) (old new : Seen) (s : SurveyFields) where
  -- a refusal of what was read is one of the input, with its cause
  pub refused_is_input : (refuses : Refusal → Bool) {fault : EditFault}
      → IsEditRefusal refuses fault → IsFileThere old.files name
      → ((bytes : List ℕ) → Holds old.files name bytes → survey_of bytes most_frames ≡ Ok s)
      → ((bytes : List ℕ) → Holds old.files name bytes → make bytes s ≡ Err fault) → new ≡ old
      → IsInputFault make name old new fault
  refused_is_input refuses is there h refused stays = grind (arith, made-survey)

  -- running out of memory is a fault of the input, once it was surveyed
  pub memory_is_input : IsFileThere old.files name
      → ((bytes : List ℕ) → Holds old.files name bytes → survey_of bytes most_frames ≡ Ok s)
      → new ≡ old → IsInputFault make name old new Memory
  memory_is_input there is stays = grind (arith, survey_of-parts)

-- ---- as a command that makes one file

module _ (make : Making) (stream : List ℕ → List StreamFrame) (refuses : Refusal → Bool)
    (input : List ℕ) where
  refuses_where : (files : Files) {fault : EditFault} (r : Option (List ℕ))
      → IfTold files (λ f. f input ≡ r) → input_result make r ≡ Err fault
      → TaskRefuses (file_task make stream refuses input) files fault
  refuses_where files r held is = grind arith

  refuses_held : (files : Files) {fault : EditFault} → IsFileThere files input
      → ((bytes : List ℕ) → Holds files input bytes → made_file make bytes ≡ Err fault)
      → TaskRefuses (file_task make stream refuses input) files fault
  refuses_held files there is = grind arith

  module _ (old new : Seen) (fault : EditFault) where
    -- a fault of the input comes before the output is created
    pub input_is_early : IsInputFault make input old new fault
        → IsEarlyFault (file_task make stream refuses input) old new fault
    input_is_early h =
        grind (
          arith,
          each_why,
          refuses_held,
          refuses_where,
          missed_name,
          before_first,
          unread_name,
          lost_name,
        )

  -- a fault of the input has the numbers of the task's inputs
  pub input_numbers : (fault : EditFault) → HasInputNumbers refuses fault
      → HasTaskNumbers (file_task make stream refuses input) fault
  input_numbers fault h = grind arith

  -- the file was surveyed, and the command accepts it
  pub file_makes : {files : Files} {made : List ℕ → List ℕ} {s : SurveyFields}
      → IsFileThere files input
      → ((bytes : List ℕ) → Holds files input bytes → survey_of bytes most_frames ≡ Ok s)
      → ((bytes : List ℕ) → Holds files input bytes → AreBytes bytes)
      → ((bytes : List ℕ) → Holds files input bytes → make bytes s ≡ Ok (made bytes))
      → IsMaking (file_task make stream refuses input) made files
  file_makes there is octets makes = grind (arith, made-survey)

-- ---- what such a command has to satisfy

-- the refusals are late, and what is made of well-formed files holds the stream that it has to hold
pub record IsProperMaking (make : Making) (stream : List ℕ → List StreamFrame) : Type 0 where
  -- none of its refusals is found before any memory is taken
  pub late : (file : List ℕ) (s : SurveyFields) → IfErr (make file s) IsLateFault
  -- what it makes of well-formed files holds the stream that it has to hold
  pub streams : (file : List ℕ) (s : SurveyFields) (new : List ℕ) → AreBytes file
      → survey_of file most_frames ≡ Ok s → make file s ≡ Ok new → HoldsStream new (stream file)

-- a fault of the bytes isn't found before memory is taken
pub of_bytes_behind : (fault : SurveyFault) → IsOfBytes fault
    → is_before_memory (Input 0 fault) ≡ false
of_bytes_behind fault is = grind arith

module _ {make : Making} {stream : List ℕ → List StreamFrame}
    (proper : IsProperMaking make stream) where
  survey_late : (bytes : List ℕ) {r : Result SurveyFields SurveyFault}
      → ((fault : SurveyFault) → r ≡ Err fault → IsOfBytes fault)
      → IfErr (surveyed_result make bytes r) IsLateFault
  survey_late bytes of_bytes = grind (arith, of_bytes_behind)

  short_late : (bytes : List ℕ) → length bytes ≤ longest_file
      → IfErr (made_file make bytes) IsLateFault
  unfolding made_file
  short_late bytes few = grind (arith, survey_of-short, survey_late, survey_fields-of_bytes)

  file_late : {o : Option (List ℕ)} {bytes : List ℕ} → o ≡ Some bytes → length bytes ≤ longest_file
      → IfErr (input_result make o) IsLateFault
  file_late held few = grind (arith, short_late)

  file_streams : (f : Contents) {input bytes new : List ℕ} → f input ≡ Some bytes → AreBytes bytes
      → input_result make (f input) ≡ Ok new
      → AreSoundFiles f (input ∷ []) × HoldsStream new (stream (unwrap_or (f input) []))
  file_streams f {bytes = bytes} {new = new} held octets is =
      let parts = made_parts make (ap (input_result make) (sym held) ∙ is) in (
        ((bytes, held, survey_of-sound bytes most_frames parts.1), tt),
        rw held (proper.streams bytes parts.0 new octets parts.1 parts.2),
      )

  -- a command that reads one file is proper if what it makes is
  pub file_proper : (refuses : Refusal → Bool) (input : List ℕ)
      → IsProperTask (file_task make stream refuses input)
  file_proper refuses input = record {
    some = omega arith;
    first = refl;
    late = grind (arith, file_late);
    streams = λ f bytes new held octets is. file_streams f held octets is;
  }
