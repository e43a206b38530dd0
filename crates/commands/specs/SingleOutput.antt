-- A command that makes one file.
pub use Rattle.sync_survey.specs.Limits.{most_frames}
use Rattle.std.specs.Prelude.{Bool, Err, false, IfErr, length, List, None, Ok, OnOk, Option, Result}
use Rattle.std.specs.Prelude.{slice_get, Some, take, true, unwrap_or, ℕ, [], ◌<◌, ◌∷◌, ◌≡◌, ◌≢◌}
use Rattle.std.specs.Prelude.{◌≤◌, ◌⊎◌}
use Rattle.bit_fields.specs.Bits.{AreBytes}
use Rattle.commands.specs.AfterCall.{by_why, CanBeAtNumber, input_of, InputEndsEarly, IsLateFault}
use Rattle.commands.specs.AfterCall.{IsNotBefore, no_cause, why_of}
use Rattle.commands.specs.Command.{AreSoundFiles, clash_from, Command, Made}
use Rattle.commands.specs.{FaultKinds.HasRightNumbers, declared.fault.EditFault.EditFault}
use Rattle.commands.specs.declared.fault.EditFault.TheVariants.{EqualNames, Input, Memory, Refused}
use Rattle.commands.specs.declared.fault.Refusal.{Refusal}
use Rattle.outside.specs.Counts.{EndedAt, HappenedTo, NothingFailed}
use Rattle.outside.specs.Files.{Contents, Files, files_holding, Holds, IfTold, is_told}
use Rattle.outside.specs.{Files.{IsFileMissing, IsFileThere, OnlyTouches}, Seen.{OnFile, Seen}}
use Rattle.sync_survey.specs.Faults.{HoldsStream, longest_file, SurveyFields}
use Rattle.sync_survey.specs.{MainData.StreamFrame, Survey.survey_of}
use Rattle.sync_survey.specs.declared.survey_fault.SurveyFault.{SurveyFault}
use Rattle.sync_survey.specs.declared.survey_fault.SurveyFault.TheVariants.{Absent}
use Rattle.sync_survey.specs.declared.survey_fault.SurveyFault.TheVariants.{Memory as NoRoom, Read}
use Rattle.sync_survey.specs.declared.survey_fault.SurveyFault.TheVariants.{Shrunk}

-- what a command makes of a file with this survey, or why it refuses the file
abbrev pub Making : Type 0
Making = List ℕ → SurveyFields → Result (List ℕ) EditFault

-- what a file with this survey becomes, or the fault of the survey
abbrev pub surveyed_result : Making → List ℕ → Result SurveyFields SurveyFault
    → Result (List ℕ) EditFault
surveyed_result make file (Err fault) = Err (Input 0 fault)
surveyed_result make file (Ok s) = make file s

-- what a file becomes, or why it is refused: it is at fault, or the command refuses it
unfoldable pub made_file : Making → List ℕ → Result (List ℕ) EditFault
made_file make file = surveyed_result make file (survey_of file most_frames)

-- what the input becomes, if it is there
abbrev pub input_result : Making → Option (List ℕ) → Result (List ℕ) EditFault
input_result make None = Err (Input 0 Absent)
input_result make (Some file) = made_file make file

-- ---- the command

-- What a command reads, what it makes of the files that are there if no input has the
-- output's name, the stream that this has to hold, and which refusals it can give.
pub record Task : Type 0 where
  -- the first input, which is read again while the output is written, and all inputs
  pub source : List ℕ
  pub inputs : List (List ℕ)
  -- those of the inputs that it reads as streams of frames
  pub sources : List (List ℕ)
  pub makes : Contents → Result (List ℕ) EditFault
  pub stream : Contents → List StreamFrame
  pub refuses : Refusal → Bool

-- the task of a command that reads one file
abbrev pub file_task : Making → (List ℕ → List StreamFrame) → (Refusal → Bool) → List ℕ → Task
file_task make stream refuses input = record {
  source = input;
  inputs = input ∷ [];
  sources = input ∷ [];
  makes = λ files. input_result make (files input);
  stream = λ files. stream (unwrap_or (files input) []);
  refuses = refuses;
}

-- the number of the first input that has the output's name
abbrev pub clash_in : Task → List ℕ → Option ℕ
clash_in task output = clash_from (output ∷ []) 0 task.inputs

-- the name of the first input
abbrev pub first_input : List (List ℕ) → List ℕ
first_input inputs = unwrap_or (slice_get inputs 0) []

-- What has to be true of a task: the source is the first input; if the source isn't too long,
-- every fault is one that is found after memory was taken; and what is made of a source that
-- consists of bytes holds the stream that it has to hold, and all sources are well-formed.
pub record IsProperTask (task : Task) : Type 0 where
  pub some : 1 ≤ length task.inputs
  pub first : first_input task.inputs ≡ task.source
  pub late : (f : Contents) (bytes : List ℕ) → f task.source ≡ Some bytes
      → length bytes ≤ longest_file → IfErr (task.makes f) IsLateFault
  pub streams : (f : Contents) (bytes new : List ℕ) → f task.source ≡ Some bytes → AreBytes bytes
      → task.makes f ≡ Ok new → AreSoundFiles f task.sources × HoldsStream new (task.stream f)

-- the result, unless an input has the output's name
abbrev pub clash_or : Option ℕ → Result (List ℕ) EditFault → Result (List ℕ) EditFault
clash_or (Some number) answer = Err (EqualNames number)
clash_or None answer = answer

-- what is written, or why nothing is: an input has the output's name, or the files are refused
unfoldable pub task_result : Task → List ℕ → Contents → Result (List ℕ) EditFault
task_result task output files = clash_or (clash_in task output) (task.makes files)

-- what a command makes that has one output with these bytes, or why it is refused
abbrev pub command_result : List ℕ → Result (List ℕ) EditFault → Result Made EditFault
command_result output (Ok bytes) =
    Ok (record { outputs = record { name = output; bytes = bytes } ∷ []; text = [] })
command_result output (Err fault) = Err fault

-- the command of a task: one file is made, and no text
abbrev pub one_command : Task → List ℕ → Command
one_command task output = record {
  inputs = task.inputs;
  outputs = output ∷ [];
  sources = task.sources;
  always = Some [];
  keeps = false;
  makes = λ files. command_result output (task_result task output files);
  streams = λ files. task.stream files ∷ [];
  refuses = task.refuses;
}

-- ---- its steps

-- the file is there, and its survey is refused if `allowed` frames are allowed
pub record RefusesFile (allowed : ℕ) (name : List ℕ) (old new : Seen)
    (fault : SurveyFault) : Type 0 where
  pub there : IsFileThere old.files name
  pub bytes : (bytes : List ℕ) → Holds old.files name bytes → survey_of bytes allowed ≡ Err fault
  pub stays : new ≡ old

-- the input is there, and its bytes are refused
pub record RefusesInput (make : Making) (name : List ℕ) (old new : Seen)
    (fault : EditFault) : Type 0 where
  pub there : IsFileThere old.files name
  pub bytes : (bytes : List ℕ) → Holds old.files name bytes → made_file make bytes ≡ Err fault
  pub stays : new ≡ old

-- an input isn't there; the inputs are counted from 0
pub record MissesAt (number : ℕ) (name : List ℕ) (old new : Seen) (fault : EditFault) : Type 0 where
  pub is : fault ≡ Input number Absent
  pub missing : IsFileMissing old.files name
  pub rose : HappenedTo name old.counts.misses new.counts.misses
  pub files : new.files ≡ old.files

-- the only input isn't there
abbrev pub MissesInput : List ℕ → Seen → Seen → EditFault → Type 0
MissesInput name old new fault = MissesAt 0 name old new fault

-- an input could not be read
pub record ReadsNothing (number : ℕ) (name : List ℕ) (old new : Seen)
    (fault : EditFault) : Type 0 where
  pub is : fault ≡ Input number Read
  pub rose : HappenedTo name old.counts.read_faults new.counts.read_faults
  pub files : new.files ≡ old.files

-- an input became shorter, which is possible only in a folder whose contents aren't known
pub record LosesInput (number : ℕ) (name : List ℕ) (old new : Seen)
    (fault : EditFault) : Type 0 where
  pub first : ℕ
  pub second : ℕ
  pub is : fault ≡ Input number (Shrunk first second)
  pub rose : EndedAt name second old.counts.ends new.counts.ends
  pub counts : NothingFailed old.counts new.counts
  pub untold : is_told old.files ≡ false
  pub files : new.files ≡ old.files

-- the input is there and isn't too long, so that memory is taken for it
pub record NeedsMemory (name : List ℕ) (old new : Seen) : Type 0 where
  pub there : IsFileThere old.files name
  pub few : (bytes : List ℕ) → Holds old.files name bytes → length bytes ≤ longest_file
  pub stays : new ≡ old

-- what a fault of the survey of an input says about the input,
-- which is counted from 0 and may have `allowed` frames
abbrev pub IsFileFault : ℕ → ℕ → List ℕ → Seen → Seen → EditFault → Type 0
IsFileFault number allowed name old new fault = by_why
    (record no_cause {
      rejected = (f : SurveyFault) × (fault ≡ Input number f) × RefusesFile allowed name old new f;
      missing = MissesAt number name old new fault;
      unread = ReadsNothing number name old new fault;
      shorter = LosesInput number name old new fault;
      no_memory = NeedsMemory name old new;
    })
    (why_of fault)

-- what a fault met before the output is created says about the input
abbrev pub IsInputFault : Making → List ℕ → Seen → Seen → EditFault → Type 0
IsInputFault make name old new fault = by_why
    (record no_cause {
      rejected = RefusesInput make name old new fault;
      missing = MissesInput name old new fault;
      unread = ReadsNothing 0 name old new fault;
      shorter = LosesInput 0 name old new fault;
      no_memory = NeedsMemory name old new;
    })
    (why_of fault)

-- ---- before the output is created

-- if the contents of the files are known, they are refused with this fault
abbrev pub TaskRefuses : Task → Files → EditFault → Type 0
TaskRefuses task files fault = IfTold files (λ f. task.makes f ≡ Err fault)

-- the files are refused with this fault, and nothing changed
pub record RefusesFiles (task : Task) (old new : Seen) (fault : EditFault) : Type 0 where
  pub defined : TaskRefuses task old.files fault
  pub stays : new ≡ old

-- the input that the fault is about isn't there
pub record MissesFile (task : Task) (old new : Seen) (fault : EditFault) : Type 0 where
  pub defined : TaskRefuses task old.files fault
  pub rose : HappenedTo (input_of task.inputs fault) old.counts.misses new.counts.misses
  pub files : new.files ≡ old.files

-- no input before the one that could not be read is at fault
pub record ReadsNoFile (task : Task) (old new : Seen) (fault : EditFault) : Type 0 where
  pub before : IfTold old.files (λ f. IfErr (task.makes f) (IsNotBefore fault))
  pub rose : HappenedTo (input_of task.inputs fault) old.counts.read_faults new.counts.read_faults
  pub files : new.files ≡ old.files

-- the input that the fault is about became shorter
pub record LosesFile (task : Task) (old new : Seen) (fault : EditFault) : Type 0 where
  pub ended : InputEndsEarly task.inputs old new fault
  pub files : new.files ≡ old.files

-- what a fault met before the output is created says
abbrev pub IsEarlyFault : Task → Seen → Seen → EditFault → Type 0
IsEarlyFault task old new fault = by_why
    (record no_cause {
      rejected = RefusesFiles task old new fault;
      missing = MissesFile task old new fault;
      unread = ReadsNoFile task old new fault;
      shorter = LosesFile task old new fault;
      no_memory = NeedsMemory task.source old new;
    })
    (why_of fault)

-- the fault is one of the inputs, a refusal that the command can give, or that memory ran out
abbrev pub HasTaskNumbers : Task → EditFault → Type 0
HasTaskNumbers task (Input number fault) =
    (number < length task.inputs) × (fault ≢ NoRoom) × HasRightNumbers fault
    × CanBeAtNumber (length task.sources) number fault
HasTaskNumbers task (Refused refusal) = task.refuses refusal ≡ true
HasTaskNumbers task Memory = Unit {0}
HasTaskNumbers task _ = ⊥

-- ---- the second pass

-- The source is there, and if the contents of the files are known, the command makes this of it.
pub record IsMaking (task : Task) (made : List ℕ → List ℕ) (files : Files) : Type 0 where
  pub there : IsFileThere files task.source
  pub makes : IfTold files (λ f.
      (bytes : List ℕ) → f task.source ≡ Some bytes
      → AreBytes bytes × (task.makes f ≡ Ok (made bytes)))

-- the output wasn't created, or holds a prefix of these bytes
abbrev pub HoldsPrefix : List ℕ → List ℕ → Files → Files → Type 0
HoldsPrefix name bytes old new =
    (new ≡ old) ⊎ ((count : ℕ) × (new ≡ files_holding old name (take count bytes)))

-- the output wasn't created, or holds a prefix of these bytes, but not all of them
abbrev pub HoldsLess : List ℕ → List ℕ → Files → Files → Type 0
HoldsLess name bytes old new =
    (new ≡ old)
    ⊎ ((count : ℕ) × (count < length bytes) × (new ≡ files_holding old name (take count bytes)))

-- if the input's content is known, the output wasn't
-- created, or holds a prefix of what it is to hold
abbrev pub IsOutputBegun : (List ℕ → List ℕ) → List ℕ → List ℕ → Files → Files → Type 0
IsOutputBegun made input output old new =
    (bytes : List ℕ) → Holds old input bytes → HoldsPrefix output (made bytes) old new

-- if the input's content is known, the output wasn't created, or holds a prefix that lacks bytes
abbrev pub IsLeftShort : (List ℕ → List ℕ) → List ℕ → List ℕ → Files → Files → Type 0
IsLeftShort made input output old new =
    (bytes : List ℕ) → Holds old input bytes → HoldsLess output (made bytes) old new

-- the input that the fault is about could not be read
-- again; the output is made from the first input
pub record StopsReading (made : List ℕ → List ℕ) (inputs : List (List ℕ)) (output : List ℕ)
    (old new : Seen) (fault : EditFault) : Type 0 where
  pub rose : HappenedTo (input_of inputs fault) old.counts.read_faults new.counts.read_faults
  pub files : IsOutputBegun made (first_input inputs) output old.files new.files

-- a call that writes the output failed; the output wasn't created or lacks bytes
pub record StopsWriting (made : List ℕ → List ℕ) (input output : List ℕ)
    (old new : Seen) : Type 0 where
  pub rose : HappenedTo output old.counts.write_faults new.counts.write_faults
  pub files : IsLeftShort made input output old.files new.files

-- what a fault met while the output is written leaves
abbrev pub IsPassFault : (List ℕ → List ℕ) → List (List ℕ) → List ℕ → Seen → Seen → EditFault
    → Type 0
IsPassFault made inputs output old new fault = by_why
    (record no_cause {
      unread = StopsReading made inputs output old new fault;
      shorter = InputEndsEarly inputs old new fault;
      unwritten = λ k. (k ≡ 0) × StopsWriting made (first_input inputs) output old new;
    })
    (why_of fault)

-- what a call leaves that writes the output by a second pass, from the first of these inputs
pub record WritesOutput {T : Type 0} (made : List ℕ → List ℕ) (inputs : List (List ℕ))
    (output : List ℕ) (old new : Seen) (result : Result T EditFault) : Type 0 where
  pub written : OnOk result (OnFile old (first_input inputs)
      (λ bytes. new.files ≡ files_holding old.files output (made bytes)))
  pub touches : OnlyTouches (output ∷ []) old.files new.files
  pub done : OnOk result (new.counts ≡ old.counts)
  pub left : IfErr result (IsPassFault made inputs output old new)
