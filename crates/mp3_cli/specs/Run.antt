-- What the program does, from its words and the files that are there.
use Rattle.std.specs.Prelude.{Bool, Err, false, IfOk, IfSome, IsErr, List, None, Ok, Option, Result}
use Rattle.std.specs.Prelude.{Some, true, ℕ, [], ◌||◌, ◌↔◌, ◌∷◌, ◌≡◌, ◌≢◌, ◌≤◌, ◌⊎◌}
use Rattle.chosen_streams.specs.Exact.{ConsistsOf}
use Rattle.command_table.specs.{Chosen.Frames, Table.{chosen_of, command_of}}
use Rattle.commands.specs.AfterCall.{HasNumbers, IsCommandDone, IsCommandFault}
use Rattle.commands.specs.Command.{AreSoundFiles, clash_of, Command, Made, written_files}
use Rattle.commands.specs.{Kept.{asked_of, first_there, made_names}, SentText.SaysText}
use Rattle.commands.specs.declared.fault.EditFault.{EditFault, TheVariants.EqualNames}
use Rattle.job_words.specs.{Request.{Pack, Request}, Words.{job_of, keeps_of}}
use Rattle.legality.specs.{Laws.AcceptsFiles, Legal.IsLegalFor}
use Rattle.outside.specs.Counts.{NoneFell, Rose}
use Rattle.outside.specs.Files.{Contents, Files, IfTold, keeping_files, OnlyMade, OnlyTouches}
use Rattle.outside.specs.{Files.{sent_and_more, Told, Untold, worse_touch}, Seen.{Heard, Seen}}
use Rattle.pack_edits.specs.Fewest.{WritesFewest}
use Rattle.program_texts.specs.Texts.{bad_word_line, fault_line, GotLine, status_of}
use Rattle.sync_survey.specs.Faults.{IsWellFormed, stream_of}

-- ---- how a command ends over every folder, even one whose contents aren't known

-- the status of a command with this fault, 0 where it was done
abbrev pub fault_status : Option EditFault → ℕ
fault_status None = 0
fault_status (Some fault) = status_of fault

-- the line of a fault; none where the command was done
abbrev pub result_line : List (List ℕ) → List (List ℕ) → Option EditFault → List ℕ
result_line inputs outputs None = []
result_line inputs outputs (Some fault) = fault_line fault inputs outputs

-- the line of a command's fault
abbrev pub command_fault_line : Command → Option EditFault → List ℕ
command_fault_line command fault = result_line command.inputs command.outputs fault

-- a sink got the line whole, or a prefix of it where a write failed
abbrev pub GetsLine : Heard → Heard → List ℕ → Type 0
GetsLine old new line = GotLine old.sent new.sent old.faults new.faults line

-- what can be seen of the outside at a moment: the folder, standard output and standard error
pub record World : Type 0 where
  pub folder : Seen
  pub out : Heard
  pub err : Heard

-- the world of this folder and these two streams
abbrev pub world : Seen → Heard → Heard → World
world folder out err = record { folder = folder; out = out; err = err }

-- files, seen as those of a folder that keeps what is there if it is used so
abbrev pub files_kept : Bool → Files → Files
files_kept true files = keeping_files files
files_kept false files = files

-- a folder, seen so
abbrev pub seen_kept : Bool → Seen → Seen
seen_kept keeps folder = record folder { files = files_kept keeps folder.files }

-- the world, with its folder seen so
abbrev pub world_kept : Bool → World → World
world_kept keeps w = record w { folder = seen_kept keeps w.folder }

-- How a command ended, with this fault or none: it was done, and its
-- text was sent, or the fault has its cause, its numbers and what it
-- leaves. Equal names are found no matter what else is at fault.
pub record CommandEnds (command : Command) (old new : Seen) (out_old out_new : Heard)
    (fault : Option EditFault) : Type 0 where
  pub says : SaysText command old.files out_old out_new fault
  pub done : fault ≡ None → IsCommandDone command old new
  pub left : IfSome fault (IsCommandFault command old new)
  pub numbers : IfSome fault (HasNumbers command)
  pub names : (place : ℕ) → clash_of command ≡ Some place → fault ≡ Some (EqualNames place)

-- The command ended, with a fault or none; the program's status is what this fault gives, and its
-- line was sent whole, or a prefix of it where a write failed.
pub record CommandAnswers (command : Command) (old new : World) (status : ℕ) : Type 0 where
  pub fault : Option EditFault
  pub ends : CommandEnds command old.folder new.folder old.out new.out fault
  pub status_is : status ≡ fault_status fault
  pub line : GetsLine old.err new.err (command_fault_line command fault)

-- a bad word: its line is sent, and all else stays
pub record AnswersBadWord (place : ℕ) (old new : World) (status : ℕ) : Type 0 where
  pub status_is : status ≡ 2
  pub line : GetsLine old.err new.err (bad_word_line place)
  pub silent : new.out ≡ old.out
  pub stays : new.folder ≡ old.folder

-- the command that is asked for, which keeps what is there or doesn't
abbrev pub kept_command_of : Bool → Request → Command
kept_command_of keeps asked = asked_of keeps (command_of asked)

-- the program did what the words ask for, as a command or as a bad word
abbrev pub AnswersWords : Bool → World → World → ℕ → Result Request ℕ → Type 0
AnswersWords keeps old new status (Ok asked) =
    CommandAnswers (kept_command_of keeps asked) old new status
AnswersWords keeps old new status (Err place) = AnswersBadWord place old new status

-- the names of the files that the words ask to write; for a split, the 99 that it may write
abbrev pub outputs_asked : Result Request ℕ → List (List ℕ)
outputs_asked (Ok asked) = (command_of asked).outputs
outputs_asked (Err place) = []

-- the text that the words ask for no matter what the files are, where there is one
abbrev pub always_of : Result Request ℕ → Option (List ℕ)
always_of (Ok asked) = (command_of asked).always
always_of (Err place) = None

-- ---- the result, where the folder's contents are known

-- the status that the program ends with, what it writes to
-- standard output and to standard error, and the files afterwards
pub record Outcome : Type 0 where
  pub status : ℕ
  pub text : List ℕ
  pub line : List ℕ
  pub files : Contents

-- the outcome of a command, from what it makes or its refusal
abbrev pub made_outcome : Command → Contents → Result Made EditFault → Outcome
made_outcome command files (Ok made) =
    record { status = 0; text = made.text; line = []; files = written_files made.outputs files }
made_outcome command files (Err fault) = record {
  status = status_of fault;
  text = [];
  line = fault_line fault command.inputs command.outputs;
  files = files;
}

-- the outcome of a command
abbrev pub command_outcome : Command → Contents → Outcome
command_outcome command files = made_outcome command files (command.makes files)

-- the outcome of what is asked for, or of a bad word
abbrev pub job_outcome : Bool → Contents → Result Request ℕ → Outcome
job_outcome keeps files (Ok asked) = command_outcome (kept_command_of keeps asked) files
job_outcome keeps files (Err place) =
    record { status = 2; text = []; line = bad_word_line place; files = files }

-- what these words make of these files, where what is there is kept or isn't
unfoldable pub outcome : Bool → List (List ℕ) → Contents → Outcome
outcome keeps words files = job_outcome keeps files (job_of words)

-- all is as defined: the status, the files, what standard output got, and the
-- line that standard error got, or a prefix of it where a write failed there
pub record IsOutcome (o : Outcome) (old new : World) (status : ℕ) : Type 0 where
  pub status_is : status ≡ o.status
  pub files_are : new.folder.files ≡ Told o.files
  pub text_is : new.out.sent ≡ sent_and_more old.out.sent o.text
  pub line_is : GetsLine old.err new.err o.line

-- ---- what is accepted

-- what is asked for is legal
abbrev pub IsLegalBy : Contents → Result Request ℕ → Type 0
IsLegalBy files (Ok asked) = IsLegalFor asked files
IsLegalBy files (Err place) = ⊥

-- The words ask for a command, no input is an output, each input that is read as a stream is
-- there, no longer than allowed, and well-formed, and the choices are legal (`IsLegalFor`).
abbrev pub IsLegal : List (List ℕ) → Contents → Type 0
IsLegal words files = IsLegalBy files (job_of words)

-- what is asked for is accepted
abbrev pub IsAcceptedBy : Contents → Result Request ℕ → Type 0
IsAcceptedBy files (Ok asked) = AcceptsFiles (command_of asked) files
IsAcceptedBy files (Err place) = ⊥

-- the words ask for a command, and it isn't refused
abbrev pub IsAccepted : List (List ℕ) → Contents → Type 0
IsAccepted words files = IsAcceptedBy files (job_of words)

-- exactly what is legal is accepted
abbrev pub LegalWordsAreAccepted : Type 0
LegalWordsAreAccepted =
    (words : List (List ℕ)) (files : Contents) → IsLegal words files ↔ IsAccepted words files

-- ---- what is kept

-- none of the names of the files that the command makes is there
abbrev pub OutputsAreMissing : Contents → Result Request ℕ → Type 0
OutputsAreMissing files (Ok asked) = IfOk ((command_of asked).makes files)
    (λ made. first_there files 0 (made_names made) ≡ None)
OutputsAreMissing files (Err place) = Unit {0}

-- What the words ask for is legal, and where what is there is kept, nothing that the command would
-- write is there.
pub record IsLegalKept (keeps : Bool) (words : List (List ℕ)) (files : Contents) : Type 0 where
  pub legal : IsLegal words files
  pub missing : keeps ≡ true → OutputsAreMissing files (job_of words)

-- each name that was there has the bytes that it had
abbrev pub KeepsContents : Contents → Contents → Type 0
KeepsContents old new = (name bytes : List ℕ) → old name ≡ Some bytes → new name ≡ Some bytes

-- each name that was there has the bytes that it had, where these are known
abbrev pub KeepsEachFile : Files → Files → Type 0
KeepsEachFile old new = IfTold old (λ before. IfTold new (λ after. KeepsContents before after))

-- Where the contents of the files aren't known: each name was touched as before, or only a new file
-- was made under it.
abbrev pub OnlyMakesNew : Files → Files → Type 0
OnlyMakesNew (Untold old) (Untold new) = (name : List ℕ)
    → (new.names name ≡ old.names name) ⊎ (new.names name ≡ worse_touch (old.names name) OnlyMade)
OnlyMakesNew _ _ = Unit {0}

-- the command was done, and all its outputs are new; or no output was created
abbrev pub AllOrNothing : List (List ℕ) → Contents → Contents → ℕ → Type 0
AllOrNothing words old new status =
    ((status ≡ 0) × OutputsAreMissing old (job_of words)) ⊎ (new ≡ old)

-- ---- the streams

-- A file of each of the first names is there, one for each of these lists
-- of frames; it is well-formed, and its stream consists of the frames.
abbrev pub HoldFrames : Contents → List (List ℕ) → List Frames → Type 0
HoldFrames files names [] = Unit {0}
HoldFrames files [] (frames ∷ more) = ⊥
HoldFrames files (name ∷ names) (frames ∷ more) = ((bytes : List ℕ) × (files name ≡ Some bytes)
    × IsWellFormed bytes × ConsistsOf frames (stream_of bytes)) × HoldFrames files names more

-- The inputs that are read as streams were there and well-formed, and the outputs are there, with
-- their names and exactly the frames that the job chooses from the inputs (`chosen_of`).
pub record HoldsWritten (asked : Request) (old new : Contents) : Type 0 where
  pub sources : AreSoundFiles old (command_of asked).sources
  pub outputs : HoldFrames new (command_of asked).outputs (chosen_of asked old)

-- this holds of what the words ask for, where the folder's contents before and after are known
abbrev pub HoldsAllStreams : List (List ℕ) → Files → Files → Type 0
HoldsAllStreams words old new = IfOk (job_of words)
    (λ asked. IfTold old (λ before. IfTold new (λ after. HoldsWritten asked before after)))

-- ---- the fewest bytes

-- what is packed into the fewest bytes has the fewest of all files with the frames of its input
abbrev pub HasFewest : Request → Files → Files → Type 0
HasFewest (Pack mode input output) old new = WritesFewest mode input output old new
HasFewest _ old new = Unit {0}

-- this holds of what the words ask for
abbrev pub HasFewestBytes : List (List ℕ) → Files → Files → Type 0
HasFewestBytes words old new = IfOk (job_of words) (λ asked. HasFewest asked old new)

-- ---- the run

-- no call of the folder failed, and no write to standard output
abbrev pub NoCallFailed : World → World → Type 0
NoCallFailed old new =
    (Rose old.folder.counts.read_faults.times new.folder.counts.read_faults.times → ⊥)
    × (Rose old.folder.counts.write_faults.times new.folder.counts.write_faults.times → ⊥)
    × (Rose old.out.faults new.out.faults → ⊥)

-- What a run of the program with these words is, by the world before and after it, and its status.
-- What is there is kept where the words begin with `-n`, or the folder does so itself.
pub record RunOfWords (keeps : Bool) (words : List (List ℕ)) (old new : World)
    (status : ℕ) : Type 0 where
  -- the statuses are 0 to 4
  pub statuses : status ≤ 4
  -- refused words give status 2, and nothing else does
  pub bad_word : (status ≡ 2) ↔ IsErr (job_of words)
  -- over every folder, even one whose contents aren't known: the command was done, or there is a
  -- fault with its status, its line with its numbers, its cause and what it leaves
  pub answers : AnswersWords keeps old new status (job_of words)
  -- with status 0, 1 or 2 all is as defined, whether or not a call failed
  pub defined : status ≤ 2
      → IfTold old.folder.files (λ files. IsOutcome (outcome keeps words files) old new status)
  -- Where no call of the folder and no write to standard output failed, and
  -- memory didn't run out, exactly what is legal is done: the words ask for a
  -- command, no input is an output, each input that is read as a stream is
  -- there, no longer than allowed and well-formed, and the choices are legal;
  -- and where what is there is kept, no output is there.
  pub accepted : (files : Contents) → old.folder.files ≡ Told files → NoCallFailed old new
      → status ≢ 4 → ((status ≡ 0) ↔ IsLegalKept keeps words files)
  -- each output is there, with its name, well-formed, and its stream is exactly the
  -- frames that the job chooses from its inputs: part by part at most one silent
  -- lead-in and then the frames, or the input's frames alone where only gains move
  pub streams : status ≡ 0 → HoldsAllStreams words old.folder.files new.folder.files
  -- with `pack --best`, and where the folder's contents are known, no file of the same frames in
  -- other slots, with a lead-in where this one has one or with none, has fewer bytes
  pub fewest : status ≡ 0 → HasFewestBytes words old.folder.files new.folder.files
  -- over every folder, even one whose contents aren't known, no name
  -- but the names of the outputs was touched: created, or written to
  pub touches : OnlyTouches (outputs_asked (job_of words)) old.folder.files new.folder.files
  -- a refusal and running out of memory leave the files, and touch no name
  pub kept : status ≢ 0 → status ≢ 3 → new.folder.files ≡ old.folder.files
  -- no status but 3 hides an absent input, a failed
  -- call of the folder or a file that became shorter
  pub failed : status ≢ 3 → new.folder.counts ≡ old.folder.counts
  -- a command that was done sends no line
  pub quiet : status ≡ 0 → new.err.sent ≡ old.err.sent
  -- standard output gets a text only where the command was done, or a write there failed
  pub silent : status ≢ 0 → status ≢ 3 → new.out.sent ≡ old.out.sent
  -- some texts are the same whatever the files are, and are sent over every folder: the texts of
  -- `--help`, `--version` and `drill`, and the empty ones of the commands that write files, except
  -- `salvage` and `join --seamless`
  pub text : status ≡ 0
      → IfSome (always_of (job_of words)) (λ text. new.out.sent ≡ sent_and_more old.out.sent text)
  -- the counts of what failed don't fall
  pub counts : NoneFell old.folder.counts new.folder.counts
  -- where what is there is kept, and the folder's contents are known, each file that was there has
  -- the bytes that it had, with every status, and whatever fails
  pub keeps_all : keeps ≡ true → KeepsEachFile old.folder.files new.folder.files
  -- and where no call failed, either all outputs are written, and all are new, or none is created
  pub all_or_nothing : keeps ≡ true → (before after : Contents) → old.folder.files ≡ Told before
      → new.folder.files ≡ Told after → NoCallFailed old new
      → AllOrNothing words before after status

-- What a run of the program with these words is, over a folder that keeps what is there or doesn't.
-- With `-n` the folder is seen as one that does.
pub record ProgramRun (keeping : Bool) (words : List (List ℕ)) (old new : World)
    (status : ℕ) : Type 0 where
  pub run : RunOfWords (keeping || keeps_of words) words (world_kept (keeps_of words) old)
      (world_kept (keeps_of words) new) status
  -- with `-n`, over every folder, even one whose contents aren't known, and with every status: no
  -- name was touched but by making a new file
  pub only_new : keeps_of words ≡ true → OnlyMakesNew old.folder.files new.folder.files
