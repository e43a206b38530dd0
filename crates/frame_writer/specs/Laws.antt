-- Laws of frames that are written.
use Rattle.std.specs.Prelude.{length, List, ℕ, ◌++◌, ◌+◌, ◌<◌, ◌≡◌, ◌≤◌}
use Rattle.frame_header.specs.Limits.{most_frame_length}
use Rattle.frame_writer.specs.Frames.{areas_length, AreFieldsOfClass, AreFramesWritten}
use Rattle.frame_writer.specs.Frames.{bytes_of_frames, Frame, held_bytes, IsNextSettled}
use Rattle.frame_writer.specs.{Frames.WaitingFrames, Laid.most_waiting}

-- what was taken, and then what waits, are the bytes of all frames that were given
abbrev pub LaidSteps : Type 0
LaidSteps = (taken : List ℕ) (held : WaitingFrames) (fs : List Frame)
    → AreFramesWritten taken held fs → taken ++ held_bytes held ≡ bytes_of_frames fs

-- there is room for one more frame
pub record HasFrameRoom (held : WaitingFrames) : Type 0 where
  pub few : length held.kept < 256
  pub room : length held.waiting.bytes + most_frame_length ≤ most_waiting

-- if later main data can reach the area of the first frame that waits, there is room for one more
abbrev pub FewFramesWait : Type 0
FewFramesWait =
    (held : WaitingFrames) → AreFieldsOfClass held.class held.kept → areas_length held.kept
    ≡ length held.waiting.bytes → (IsNextSettled held → ⊥) → HasFrameRoom held
