-- What a command leaves of the files, by its result, and the cause of each refusal.
use Rattle.std.specs.Prelude.{Bool, drop, Err, false, IfErr, length, List, None, Ok, Option, Result}
use Rattle.std.specs.Prelude.{slice_index_or, Some, take, true, ℕ, [], ◌+◌, ◌<◌, ◌==◌, ◌≡◌, ◌≢◌}
use Rattle.std.specs.Prelude.{◌≤◌, ◌⊎◌}
use Rattle.commands.specs.Command.{clash_of, Command, HasAnswer, LacksBytes, Made}
use Rattle.commands.specs.Command.{partly_written_files, written_files}
use Rattle.commands.specs.FaultKinds.{by_kind, HasRightNumbers, IsFromOutside, kind_of, shrunk_end}
use Rattle.commands.specs.declared.fault.EditFault.{EditFault}
use Rattle.commands.specs.declared.fault.EditFault.TheVariants.{EqualNames, Input, Memory, Refused}
use Rattle.commands.specs.declared.fault.{EditFault.TheVariants.{Sent, Write}, Refusal.Refusal}
use Rattle.commands.specs.declared.fault.Refusal.TheVariants.{Differ, Exists}
use Rattle.outside.specs.Counts.{EndedAt, HappenedTo, NothingFailed}
use Rattle.outside.specs.{Files.{Files, IfTold, is_told, OnlyTouches, Told}, Seen.Seen}
use Rattle.sync_survey.specs.declared.survey_fault.SurveyFault.{SurveyFault}
use Rattle.sync_survey.specs.declared.survey_fault.SurveyFault.TheVariants.{Absent}
use Rattle.sync_survey.specs.declared.survey_fault.SurveyFault.TheVariants.{Memory as NoRoom}
use Rattle.sync_survey.specs.declared.survey_fault.SurveyFault.TheVariants.{TooLong}

-- ---- what a refusal comes from

-- why a command isn't done
pub data Why : Type 0 where
  -- the names or the files are refused
  Rejected : Why
  -- an input isn't there
  Missing : Why
  -- a call that reads failed
  Unread : Why
  -- an input became shorter while it was read
  Shorter : Why
  -- a call that writes this output failed
  Unwritten : ℕ → Why
  -- a write to standard output failed
  Unsent : Why
  -- memory ran out
  NoMemory : Why

-- a value for each of these causes
pub record ByWhy {ℓ} (A : Type ℓ) : Type ℓ where
  pub rejected : A
  pub missing : A
  pub unread : A
  pub shorter : A
  pub unwritten : ℕ → A
  pub unsent : A
  pub no_memory : A

-- the value for this cause
abbrev pub by_why {ℓ} : {A : Type ℓ} → ByWhy A → Why → A
by_why w Rejected = w.rejected
by_why w Missing = w.missing
by_why w Unread = w.unread
by_why w Shorter = w.shorter
by_why w (Unwritten k) = w.unwritten k
by_why w Unsent = w.unsent
by_why w NoMemory = w.no_memory

-- none of the causes is possible
abbrev pub no_cause : ByWhy (Type 0)
no_cause = record {
  rejected = ⊥;
  missing = ⊥;
  unread = ⊥;
  shorter = ⊥;
  unwritten = λ k. ⊥;
  unsent = ⊥;
  no_memory = ⊥;
}

-- the cause of a fault
abbrev pub why_of : EditFault → Why
why_of (Input number fault) =
    by_kind (record {
      absent = Missing;
      unread = Unread;
      shorter = Shorter;
      too_much = NoMemory;
      refused = Rejected;
    }) (kind_of fault)
why_of (Write number) = Unwritten number
why_of Sent = Unsent
why_of Memory = NoMemory
why_of (EqualNames number) = Rejected
why_of (Refused refusal) = Rejected

-- ---- which file it was

-- the name of the input that a fault is about
abbrev pub input_of : List (List ℕ) → EditFault → List ℕ
input_of inputs (Input number fault) = slice_index_or inputs number []
input_of inputs _ = []

-- the offset at which the input ended, if it became shorter
abbrev pub end_offset : EditFault → ℕ
end_offset (Input number fault) = shrunk_end fault
end_offset _ = 0

-- the contents of the files aren't known; a read of the input that the fault
-- is about gave no byte at the offset that the fault says; and no call failed
pub record InputEndsEarly (inputs : List (List ℕ)) (old new : Seen)
    (fault : EditFault) : Type 0 where
  pub rose : EndedAt (input_of inputs fault) (end_offset fault) old.counts.ends new.counts.ends
  pub counts : NothingFailed old.counts new.counts
  pub untold : is_told old.files ≡ false

-- ---- what is left

-- the command was done: all that it makes was written, and no count changed
pub record IsCommandDone (command : Command) (old new : Seen) : Type 0 where
  pub made : IfTold old.files (λ f.
      (made : Made) × (command.makes f ≡ Ok made)
      × (new.files ≡ Told (written_files made.outputs f)))
  pub touches : OnlyTouches command.outputs old.files new.files
  pub counts : new.counts ≡ old.counts

-- the command isn't refused, and the first k of the outputs that it
-- makes are whole; the next one holds a prefix, or wasn't created
pub record IsWrittenTo (command : Command) (k : ℕ) (old new : Files) : Type 0 where
  pub made : IfTold old (λ f.
      (made : Made) × (command.makes f ≡ Ok made) × (k < length made.outputs)
      × (count : Option ℕ) × (new ≡ Told (partly_written_files k count made.outputs f)))
  pub touches : OnlyTouches (take (k + 1) command.outputs) old new

-- The command isn't refused, and the first k of the outputs that it makes are
-- whole. The next one isn't: it holds a prefix that lacks bytes, or wasn't created.
pub record IsOutputUnfinished (command : Command) (k : ℕ) (old new : Files) : Type 0 where
  pub made : IfTold old (λ f.
      (made : Made) × (command.makes f ≡ Ok made) × (k < length made.outputs)
      × (count : Option ℕ) × LacksBytes count (drop k made.outputs)
      × (new ≡ Told (partly_written_files k count made.outputs f)))
  pub touches : OnlyTouches (take (k + 1) command.outputs) old new

-- the command is refused with this fault; nothing changed
pub record IsCommandRefused (command : Command) (old new : Seen) (fault : EditFault) : Type 0 where
  pub defined : HasAnswer command old.files (Err fault)
  pub stays : new ≡ old

-- the command is refused since the input that the fault is about isn't there
pub record IsInputMissing (command : Command) (old new : Seen) (fault : EditFault) : Type 0 where
  pub defined : HasAnswer command old.files (Err fault)
  pub rose : HappenedTo (input_of command.inputs fault) old.counts.misses new.counts.misses
  pub files : new.files ≡ old.files

-- The refusal `answer` names no input before the one that the fault names. The inputs are
-- checked in order, so if one could not be read, those before it are there and without fault,
-- and none differs from the first. Every refusal that names no input comes after these.
abbrev pub IsNotBefore : EditFault → EditFault → Type 0
IsNotBefore (Input number fault) (Input at first) = number ≤ at
IsNotBefore (Input number fault) (Refused (Differ at)) = number ≤ at
IsNotBefore fault answer = Unit {0}

-- A call failed that looks up or reads the input that the fault is about. No
-- input has the name of an output, and no input before this one is at fault.
pub record IsInputUnread (command : Command) (old new : Seen) (fault : EditFault) : Type 0 where
  pub names : clash_of command ≡ None
  pub before : IfTold old.files (λ f. IfErr (command.makes f) (IsNotBefore fault))
  pub rose : HappenedTo
      (input_of command.inputs fault) old.counts.read_faults new.counts.read_faults
  pub files : (new.files ≡ old.files) ⊎ ((k : ℕ) × IsWrittenTo command k old.files new.files)

-- an input became shorter, which is possible only in a folder whose contents aren't known
pub record IsInputShorter (command : Command) (old new : Seen) (fault : EditFault) : Type 0 where
  pub ended : InputEndsEarly command.inputs old new fault
  pub touches : OnlyTouches command.outputs old.files new.files

-- the refusal is that of an output that is there, and isn't before this one
abbrev pub IsThereFrom : ℕ → EditFault → Type 0
IsThereFrom k (Refused (Exists number)) = k ≤ number
IsThereFrom k _ = ⊥

-- A command that keeps what is there could not ask for this output. It isn't refused, unless since
-- this output or one behind it is there; and nothing was created.
pub record IsOutputUnasked (command : Command) (k : ℕ) (old new : Files) : Type 0 where
  pub keeps : command.keeps ≡ true
  pub before : IfTold old (λ f. IfErr (command.makes f) (IsThereFrom k))
  pub stays : new ≡ old

-- a call that asks for this output, creates it or writes to it failed
pub record IsOutputUnwritten (command : Command) (k : ℕ) (old new : Seen) : Type 0 where
  pub rose : HappenedTo
      (slice_index_or command.outputs k []) old.counts.write_faults new.counts.write_faults
  pub files : IsOutputUnfinished command k old.files new.files
      ⊎ IsOutputUnasked command k old.files new.files

-- equal names, an absent first input and one that is too long are found before any memory is taken
abbrev pub is_before_memory : EditFault → Bool
is_before_memory (EqualNames number) = true
is_before_memory (Input number Absent) = number == 0
is_before_memory (Input number (TooLong size)) = number == 0
is_before_memory _ = false

-- the fault is found after memory was taken
abbrev pub IsLateFault : EditFault → Type 0
IsLateFault fault = is_before_memory fault ≡ false

-- memory was taken before the command gave this result
abbrev pub TakesMemory : Result Made EditFault → Type 0
TakesMemory (Ok made) = Unit {0}
TakesMemory (Err fault) = is_before_memory fault ≡ false

-- nothing changed, and the command is one that memory is taken for
pub record IsOutOfMemory (command : Command) (old new : Seen) : Type 0 where
  pub names : clash_of command ≡ None
  pub takes : IfTold old.files (λ f. TakesMemory (command.makes f))
  pub stays : new ≡ old

-- what is left, by the cause; the text is sent last, so if
-- sending failed all of the command's files were written
abbrev pub left_cases : Command → Seen → Seen → EditFault → ByWhy (Type 0)
left_cases command old new fault = record {
  rejected = IsCommandRefused command old new fault;
  missing = IsInputMissing command old new fault;
  unread = IsInputUnread command old new fault;
  shorter = IsInputShorter command old new fault;
  unwritten = λ k. IsOutputUnwritten command k old new;
  unsent = IsCommandDone command old new;
  no_memory = IsOutOfMemory command old new;
}

-- what a fault of the command leaves, and its cause
abbrev pub IsCommandFault : Command → Seen → Seen → EditFault → Type 0
IsCommandFault command old new fault = by_why (left_cases command old new fault) (why_of fault)

-- ---- what the numbers of a fault say in every folder

-- the input is the first or one of `sources` sources, whose frames are read;
-- any other, such as a sheet, can only be missing, unreadable or shorter
abbrev pub CanBeAtNumber : ℕ → ℕ → SurveyFault → Type 0
CanBeAtNumber sources number fault = (number ≡ 0) ⊎ (number < sources) ⊎ IsFromOutside fault

-- The numbers of a fault, in every folder: the number of an input or an output is one that the
-- command has, a refusal is one that it can give, a file that is too long is longer than one may
-- be, one that became shorter ended before its first length, and a sheet has no fault of a stream.
abbrev pub HasNumbers : Command → EditFault → Type 0
HasNumbers command (EqualNames number) = clash_of command ≡ Some number
HasNumbers command (Input number fault) =
    (number < length command.inputs) × (fault ≢ NoRoom) × HasRightNumbers fault
    × CanBeAtNumber (length command.sources) number fault
HasNumbers command (Refused refusal) = command.refuses refusal ≡ true
HasNumbers command (Write number) = number < length command.outputs
HasNumbers command Sent = command.always ≢ Some []
HasNumbers command Memory = Unit {0}

-- the fault is one of this input, or that memory ran out
abbrev pub HasSurveyNumbers : ℕ → EditFault → Type 0
HasSurveyNumbers at (Input number fault) = (number ≡ at) × (fault ≢ NoRoom) × HasRightNumbers fault
HasSurveyNumbers at Memory = Unit {0}
HasSurveyNumbers at _ = ⊥

-- the fault is one of the only input, a refusal that passes the test, or that memory ran out
abbrev pub HasInputNumbers : (Refusal → Bool) → EditFault → Type 0
HasInputNumbers refuses (Input number fault) =
    (number ≡ 0) × (fault ≢ NoRoom) × HasRightNumbers fault
HasInputNumbers refuses (Refused refusal) = refuses refusal ≡ true
HasInputNumbers refuses Memory = Unit {0}
HasInputNumbers refuses _ = ⊥

-- the fault is one of the second pass over the only input, for which all memory was taken before
abbrev pub HasPassNumbers : EditFault → Type 0
HasPassNumbers (Input number fault) = (number ≡ 0) × (fault ≢ NoRoom) × HasRightNumbers fault
HasPassNumbers (Write number) = number ≡ 0
HasPassNumbers _ = ⊥

-- the fault is a refusal that passes the test
abbrev pub IsEditRefusal : (Refusal → Bool) → EditFault → Type 0
IsEditRefusal refuses (Refused refusal) = refuses refusal ≡ true
IsEditRefusal refuses _ = ⊥
