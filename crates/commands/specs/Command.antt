-- What a command is, seen from outside: from the files that
-- are there it makes files and a text, or it is refused.
use Rattle.std.specs.List.{list_any}
use Rattle.std.specs.Prelude.{Bool, bytes_eq, drop, if◌then◌else◌, length, List, None, Ok, Option}
use Rattle.std.specs.Prelude.{Result, Some, take, ℕ, [], ◌++◌, ◌+◌, ◌<◌, ◌∷◌, ◌≡◌}
use Rattle.commands.specs.declared.fault.{EditFault.EditFault, Refusal.Refusal}
use Rattle.outside.specs.Files.{Contents, Files, IfTold, with_file}
use Rattle.sync_survey.specs.{Faults.{HoldsStream, IsWellFormed}, MainData.StreamFrame}

-- a file that a command writes
pub record Output : Type 0 where
  pub name : List ℕ
  pub bytes : List ℕ

-- what a command makes: files in the order of writing, and a text for standard output
pub record Made : Type 0 where
  pub outputs : List Output
  pub text : List ℕ

-- a command seen from outside: the names of its files, what it makes of the files or why it
-- refuses them, the streams that its outputs have to hold, and which refusals it can give
pub record Command : Type 0 where
  -- the names of the files that it reads, and of those that it may write
  pub inputs : List (List ℕ)
  pub outputs : List (List ℕ)
  -- the names of those inputs that it reads as streams of frames
  pub sources : List (List ℕ)
  -- the text that it makes whatever the files are, if it always makes the same
  pub always : Option (List ℕ)
  -- what it makes of these files, or why it is refused
  pub makes : Contents → Result Made EditFault
  -- the stream that each file it writes has to hold
  pub streams : Contents → List (List StreamFrame)
  -- which refusals it can give
  pub refuses : Refusal → Bool
  -- whether it keeps what is there: it asks for its outputs before it creates the first
  pub keeps : Bool

-- ---- names

-- the number of the first of these names that is an output's, if the first name has this number
abbrev pub clash_from : List (List ℕ) → ℕ → List (List ℕ) → Option ℕ
clash_from outputs number [] = None
clash_from outputs number (name ∷ names) =
    if list_any (bytes_eq name) outputs then Some number else clash_from outputs (number + 1) names

-- the number of the first input whose name is an output's, byte for byte
abbrev pub clash_of : Command → Option ℕ
clash_of command = clash_from command.outputs 0 command.inputs

-- ---- files

-- the files once these outputs were written
abbrev pub written_files : List Output → Contents → Contents
written_files [] files = files
written_files (output ∷ outputs) files =
    written_files outputs (with_file files output.name output.bytes)

-- the next output with its first bytes, if it was created
abbrev pub begun_output : Option ℕ → List Output → List Output
begun_output (Some count) (output ∷ outputs) =
    record output { bytes = take count output.bytes } ∷ []
begun_output _ _ = []

-- if the next output was created, its first bytes aren't all of them
abbrev pub LacksBytes : Option ℕ → List Output → Type 0
LacksBytes (Some count) (output ∷ outputs) = count < length output.bytes
LacksBytes _ _ = Unit {0}

-- the first k outputs are whole, and the next one holds its first bytes, or wasn't created
abbrev pub partly_written_files : ℕ → Option ℕ → List Output → Contents → Contents
partly_written_files k count outputs files =
    written_files (take k outputs ++ begun_output count (drop k outputs)) files

-- if the contents of the files are known, this is the result of the command for them
abbrev pub HasAnswer : Command → Files → Result Made EditFault → Type 0
HasAnswer command files answer = IfTold files (λ f. command.makes f ≡ answer)

-- ---- streams

-- each of these files is well-formed and holds the stream with its number
abbrev pub AreStreams : List Output → List (List StreamFrame) → Type 0
AreStreams [] [] = Unit {0}
AreStreams (output ∷ outputs) (stream ∷ streams) =
    HoldsStream output.bytes stream × AreStreams outputs streams
AreStreams _ _ = ⊥

-- the files with these names are there and well-formed
abbrev pub AreSoundFiles : Contents → List (List ℕ) → Type 0
AreSoundFiles files [] = Unit {0}
AreSoundFiles files (name ∷ names) =
    ((bytes : List ℕ) × (files name ≡ Some bytes) × IsWellFormed bytes) × AreSoundFiles files names

-- the command is done only with well-formed sources, and what
-- it makes of them holds the streams that it has to hold
pub record MakesStreams (command : Command) (files : Contents) (made : Made) : Type 0 where
  pub sources : AreSoundFiles files command.sources
  pub streams : AreStreams made.outputs (command.streams files)

-- if the contents of the files are known, the sources of a command that is done
-- are well-formed, and what it makes holds the streams that it has to hold
abbrev pub HoldsStreams : Command → Files → Type 0
HoldsStreams command files =
    IfTold files (λ f. (made : Made) → command.makes f ≡ Ok made → MakesStreams command f made)
