-- What a command changes in a file, and the file that it writes.
use Rattle.std.specs.Prelude.{Bool, Err, List, map, MatchResult, Ok, Result, ℕ, ◌≡◌, ◌⊎◌}
use Rattle.commands.specs.SingleOutput.{file_task, made_file, Making, Task}
use Rattle.commands.specs.declared.fault.EditFault.{EditFault, TheVariants.Memory}
use Rattle.commands.specs.declared.fault.Refusal.{Refusal}
use Rattle.moved_gains.specs.Change.{change_in, file_with_change, FileChange}
use Rattle.moved_gains.specs.Streams.{moved_stream_frame, stream_of}
use Rattle.moved_gains.specs.declared.change.Change.{Change}
use Rattle.requests.specs.declared.shift.Steps.{Steps}
use Rattle.sync_survey.specs.{Faults.SurveyFields, MainData.StreamFrame}

-- What a command changes in a file with this survey, or why it refuses it.
abbrev pub Changing : Type 0
Changing = List ℕ → SurveyFields → Result FileChange EditFault

-- the code returns what the definition says of a file with this survey, or memory ran out
abbrev pub IsChangeDecided : SurveyFields → Result FileChange EditFault
    → Result Change EditFault → Type 0
IsChangeDecided s made r = MatchResult r (λ change. made ≡ Ok (change_in change s))
    (λ fault. (fault ≡ Memory) ⊎ (made ≡ Err fault))

-- the file with this change, or why there is none
abbrev pub changed_or_fault : List ℕ → SurveyFields → Result FileChange EditFault
    → Result (List ℕ) EditFault
changed_or_fault file s (Err fault) = Err fault
changed_or_fault file s (Ok change) = Ok (file_with_change change file s)

-- what such a command makes of a file with this survey, or why it refuses it
abbrev pub change_making : Changing → Making
change_making of file s = changed_or_fault file s (of file s)

-- what a file becomes with such a command, or why it is refused
abbrev pub change_result : Changing → List ℕ → Result (List ℕ) EditFault
change_result of file = made_file (change_making of) file

-- the stream of a file with its gains moved by these steps
abbrev pub moved_file_stream : (List ℕ → Steps) → List ℕ → List StreamFrame
moved_file_stream steps_in file = map (moved_stream_frame (steps_in file)) (stream_of file)

-- it makes the input with these changes, whose stream is the input's with the gains moved by these
-- steps
abbrev pub change_task : Changing → (List ℕ → Steps) → (Refusal → Bool) → List ℕ → Task
change_task of steps_in refuses input =
    file_task (change_making of) (moved_file_stream steps_in) refuses input
