-- The writer of a file: the frames that wait, and the writer's state.
use Rattle.std.specs.Prelude.{List, ℕ, [], ◌≡◌}
use Rattle.frame_writer.specs.{Frames.{IsNextSettled, WaitingFrames}, declared.writer.State.State}
use Rattle.frame_writer.specs.declared.writer.State.TheVariants.{Failed, Finished, Open}

-- the frames that wait, with what waits of their areas, and the writer's state
pub record Writer : Type 0 where
  pub held : WaitingFrames
  pub state : State

-- if the writer is open, nothing waits before the file,
-- and later main data can reach the first frame that waits
abbrev pub IsWriterSettled : State → WaitingFrames → List ℕ → Type 0
IsWriterSettled Open held unsent = (unsent ≡ []) × (IsNextSettled held → ⊥)
IsWriterSettled Failed held unsent = Unit {0}
IsWriterSettled Finished held unsent = Unit {0}
