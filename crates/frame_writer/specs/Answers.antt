-- What calls of a writer return and leave.
use Rattle.std.specs.Prelude.{drop, length, List, min, OnErr, OnOk, Result, ℕ, [], ◌≡◌, ◌≤◌}
use Rattle.frame_header.specs.Tables.{class_of}
use Rattle.frame_writer.specs.Frames.{EndsInArea, first_area, Frame, held_bytes, IsNextSettled}
use Rattle.frame_writer.specs.Frames.{reach_after_frame, reach_of, WaitingFrames}
use Rattle.frame_writer.specs.Writing.{AcceptsFrame, bytes_with_frame, ForwardsBytes}
use Rattle.frame_writer.specs.Writing.{ForwardsFrames, ForwardsPart, waiting_bytes, WriteFailed}
use Rattle.frame_writer.specs.{Writing.{WritesPart, Writing}, declared.writer.State.State}
use Rattle.frame_writer.specs.declared.writer.State.TheVariants.{Failed, Finished}
use Rattle.outside.specs.{BufferOutput.{AppendedPrefix, AppendsWaiting}, Counts.OnlyWrites}
use Rattle.outside.specs.{Files.with_appended_bytes, Seen.Seen}
use Rattle.outside.specs.declared.folder.Failed.{Failed as FailedCall}
use Rattle.reservoir.specs.Window.{window_size}

-- All that waits was forwarded to the buffer before the file, or a write failed.
pub record QueueFinish (name : List ℕ) (was now : Writing) (old new : Seen)
    (result : Result (Unit {0}) FailedCall) : Type 0 where
  pub passed : OnOk result (AppendsWaiting name (waiting_bytes was) now.unsent old.files new.files)
  pub none : OnOk result (now.held.kept ≡ [])
  pub prefix : OnErr result (AppendedPrefix name (waiting_bytes was) old.files new.files)
  pub failed : OnErr result (WriteFailed name old.counts new.counts)
  pub done : OnOk result (new.counts ≡ old.counts)
  pub counts : OnlyWrites old.counts new.counts

-- What no later main data can reach was forwarded to the buffer before the file, or a write failed.
pub record HandOnAnswer (name : List ℕ) (was now : Writing) (old new : Seen)
    (result : Result (Unit {0}) FailedCall) : Type 0 where
  pub passed : OnOk result (ForwardsBytes name was now old.files new.files)
  pub moved : OnOk result (ForwardsFrames was.held now.held)
  pub part : OnErr result (ForwardsPart name was now.held old.files new.files)
  pub class : now.held.class ≡ was.held.class
  pub reach : reach_of now.held ≡ reach_of was.held
  pub unsettled : OnOk result (IsNextSettled now.held → ⊥)
  pub prefix : OnErr result (AppendedPrefix name (waiting_bytes was) old.files new.files)
  pub failed : OnErr result (WriteFailed name old.counts new.counts)
  pub done : OnOk result (new.counts ≡ old.counts)
  pub counts : OnlyWrites old.counts new.counts

-- The first frame that waits was taken, with its bytes for the file, or a write failed.
pub record TakeFirstAnswer (name : List ℕ) (was now : Writing) (old new : Seen)
    (result : Result (Unit {0}) FailedCall) : Type 0 where
  pub passed : OnOk result (ForwardsBytes name was now old.files new.files)
  pub moved : ForwardsFrames was.held now.held
  pub part : OnErr result (ForwardsPart name was now.held old.files new.files)
  pub prefix : OnErr result (AppendedPrefix name (waiting_bytes was) old.files new.files)
  pub class : now.held.class ≡ was.held.class
  pub kept : now.held.kept ≡ drop 1 was.held.kept
  pub left : now.held.waiting.bytes ≡ drop (first_area was.held.kept) was.held.waiting.bytes
  pub free : now.held.waiting.free ≡ min was.held.waiting.free (length now.held.waiting.bytes)
  pub reach : IsNextSettled was.held → reach_of now.held ≡ reach_of was.held
  pub failed : OnErr result (WriteFailed name old.counts new.counts)
  pub done : OnOk result (new.counts ≡ old.counts)
  pub counts : OnlyWrites old.counts new.counts

-- A frame was added, and what no later main data can reach was forwarded, or a write failed.
pub record FrameAnswer (name : List ℕ) (f : Frame) (was now : Writing) (old new : Seen)
    (result : Result (Unit {0}) FailedCall) : Type 0 where
  pub written : OnOk result (AcceptsFrame name f was now old.files new.files)
  pub passed : OnOk result
      (AppendsWaiting name (bytes_with_frame was f) (waiting_bytes now) old.files new.files)
  pub part : OnErr result (WritesPart name f was now.held old.files new.files)
  pub prefix : OnErr result (AppendedPrefix name (bytes_with_frame was f) old.files new.files)
  pub class : now.held.class ≡ was.held.class
  pub reach : reach_of now.held ≡ reach_after_frame was.held.class f
  pub failed : OnErr result (WriteFailed name old.counts new.counts)
  pub done : OnOk result (new.counts ≡ old.counts)
  pub counts : OnlyWrites old.counts new.counts

-- All that waits was appended to the file, or a write failed.
pub record WriterFinish (name : List ℕ) (was now : WaitingFrames) (state : State) (old new : Seen)
    (result : Result (Unit {0}) FailedCall) : Type 0 where
  pub appended : OnOk result (new.files ≡ with_appended_bytes old.files name (held_bytes was))
  pub none : OnOk result (now.kept ≡ [])
  pub finished : OnOk result (state ≡ Finished)
  pub prefix : OnErr result (AppendedPrefix name (held_bytes was) old.files new.files)
  pub ended : OnErr result (state ≡ Failed)
  pub failed : OnErr result (WriteFailed name old.counts new.counts)
  pub done : OnOk result (new.counts ≡ old.counts)
  pub counts : OnlyWrites old.counts new.counts

-- A writer takes this frame: it is of the class, and its main data begin in
-- what is free, end in the frame's own area, and have at most 2,048 bytes.
pub record CanTakeFrame (held : WaitingFrames) (f : Frame) : Type 0 where
  pub class : class_of f.kept.header ≡ held.class
  pub start : f.kept.side.main_data_begin ≤ held.waiting.free
  pub within : EndsInArea f
  pub few : length f.payload ≤ window_size
