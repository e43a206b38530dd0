-- A change of gains and an undo as one command: what they change.
use Rattle.std.specs.Prelude.{Bool, Err, IfErr, IfOk, List, None, Ok, OnOk, Option, Result, Some}
use Rattle.std.specs.Prelude.{true, ℕ, ◌≡◌}
use Rattle.commands.specs.{AfterCall.HasInputNumbers, SingleOutput.{IsInputFault, Task}}
use Rattle.commands.specs.declared.fault.EditFault.{EditFault, TheVariants.Refused}
use Rattle.commands.specs.declared.fault.Refusal.{Refusal, TheVariants.NoUndo}
use Rattle.gain_edits.specs.Change.{change_making, change_task, Changing}
use Rattle.gain_edits.specs.Gain.{gain_change, gain_refuses, noted_tag_change, plain_change}
use Rattle.gain_edits.specs.Undo.{file_undo_steps, undo_change, undo_refuses, undone_tag_change}
use Rattle.gain_edits.specs.declared.changes.Changes.{Changes, TheVariants.{Move, Undo}}
use Rattle.moved_gains.specs.{Change.{change_in, FileChange}, declared.change.Change.Change}
use Rattle.outside.specs.{Counts.OnlyReads, Files.Holds, Seen.Seen}
use Rattle.requests.specs.{Shifts.steps_of, declared.shift.Steps.Steps}
use Rattle.sync_survey.specs.Faults.{SurveyFields}
use Rattle.tag_blocks.specs.Tags.{TagFields}

-- what a change of gains, or an undo, changes
abbrev pub changing_of : Changes → Changing
changing_of (Move shift tags) = gain_change shift.now tags
changing_of Undo = undo_change

-- the changes are noted in the tag, or were
abbrev pub are_noted : Changes → Bool
are_noted (Move shift tags) = tags
are_noted Undo = true

-- what changes in a file that has this tag, or whose tag wasn't read
abbrev pub decided_change : Changes → SurveyFields → Option TagFields → Result FileChange EditFault
decided_change (Move shift tags) s None = plain_change shift.now s
decided_change (Move shift tags) s (Some tag) = noted_tag_change shift.now s tag
decided_change Undo s None = Err (Refused NoUndo)
decided_change Undo s (Some tag) = undone_tag_change s tag

-- by which steps the stream moves
abbrev pub steps_of_changes : Changes → List ℕ → Steps
steps_of_changes (Move shift tags) = λ file. steps_of shift.now
steps_of_changes Undo = file_undo_steps

-- which refusals the command may return
abbrev pub refuses_of_changes : Changes → Refusal → Bool
refuses_of_changes (Move shift tags) = gain_refuses tags
refuses_of_changes Undo = undo_refuses

-- the command as a task
abbrev pub task_of_changes : Changes → List ℕ → Task
task_of_changes changes input =
    change_task (changing_of changes) (steps_of_changes changes) (refuses_of_changes changes) input

-- The decision for a surveyed input: the change of its bytes, or why it is refused. The files stay.
pub record IsDecision (changes : Changes) (name : List ℕ) (old new : Seen) (s : SurveyFields)
    (r : Result Change EditFault) : Type 0 where
  pub change : IfOk r (λ change. (bytes : List ℕ) → Holds old.files name bytes
      → changing_of changes bytes s ≡ Ok (change_in change s))
  pub refused : IfErr r (IsInputFault (change_making (changing_of changes)) name old new)
  pub numbers : IfErr r (HasInputNumbers (refuses_of_changes changes))
  pub done : OnOk r (new.counts ≡ old.counts)
  pub files : new.files ≡ old.files
  pub counts : OnlyReads old.counts new.counts
