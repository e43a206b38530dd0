-- A cut and a packing with the least slots as one command: what they choose.
use Rattle.std.specs.Prelude.{Bool, List, ℕ}
use Rattle.commands.specs.{SingleOutput.Task, declared.fault.Refusal.Refusal}
use Rattle.cue_sheet.specs.Places.{IsPlace}
use Rattle.cut_edits.specs.Chosen.{all_choice, Choosing, cut_choice, cut_refuses, first_planning}
use Rattle.cut_edits.specs.Chosen.{laying_task, pack_refuses, slot_choices}
use Rattle.cut_edits.specs.declared.choice.FrameChoice.{FrameChoice, TheVariants.{All, Between}}

-- what a cut, or a packing, chooses
abbrev pub choosing_of : FrameChoice → Choosing
choosing_of (Between from to) = cut_choice from.now to.now
choosing_of All = all_choice

-- which refusals the command may return
abbrev pub refuses_of_choice : FrameChoice → Refusal → Bool
refuses_of_choice (Between from to) = cut_refuses
refuses_of_choice All = pack_refuses

-- each frame in its own slot, or in the least
abbrev pub task_of_choice : FrameChoice → Bool → List ℕ → Task
task_of_choice choice least input =
    laying_task (choosing_of choice) (first_planning (slot_choices least))
    (refuses_of_choice choice) input

-- both positions are sound: a time has 1 to 100 parts per second
abbrev pub IsSoundChoice : FrameChoice → Type 0
IsSoundChoice (Between from to) = IsPlace from.now × IsPlace to.now
IsSoundChoice All = Unit {0}
