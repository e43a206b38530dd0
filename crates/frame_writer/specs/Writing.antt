-- Frames on their way to a file, through a buffer before it.
use Rattle.std.specs.Prelude.{List, ℕ, [], ◌++◌, ◌∷◌, ◌≡◌}
use Rattle.frame_header.specs.Fields.{ClassFields}
use Rattle.frame_writer.specs.Frames.{areas_with_frame, AreFramesWritten, Frame, framed_bytes}
use Rattle.frame_writer.specs.Frames.{held_bytes, IsNextSettled, WaitingFrames}
use Rattle.outside.specs.BufferOutput.{AppendedPrefix, AppendsWaiting}
use Rattle.outside.specs.{Counts.{Counts, HappenedTo}, Files.{Files, with_appended_bytes}}

-- the frames that wait, and the bytes in the buffer before the file
pub record Writing : Type 0 where
  pub held : WaitingFrames
  pub unsent : List ℕ

-- these frames and bytes wait
abbrev pub writing_of : WaitingFrames → List ℕ → Writing
writing_of held unsent = record { held = held; unsent = unsent }

-- all bytes that wait
abbrev pub waiting_bytes : Writing → List ℕ
waiting_bytes w = w.unsent ++ held_bytes w.held

-- all bytes that wait, with the bytes of one more frame
abbrev pub bytes_with_frame : Writing → Frame → List ℕ
bytes_with_frame w f =
    w.unsent ++ framed_bytes (w.held.kept ++ f.kept ∷ []) (areas_with_frame w.held.waiting f)

-- no frame of this class was given yet
pub record IsNewQueue (class : ClassFields) (held : WaitingFrames) : Type 0 where
  pub class_is : held.class ≡ class
  pub none : held.kept ≡ []
  pub free : held.waiting.free ≡ 0
  pub written : AreFramesWritten [] held []
  pub unsettled : IsNextSettled held → ⊥

-- a call failed that writes to the file with this name
abbrev pub WriteFailed : List ℕ → Counts → Counts → Type 0
WriteFailed name before after = HappenedTo name before.write_faults after.write_faults

-- frames that waited were forwarded
pub record ForwardsFrames (old new : WaitingFrames) : Type 0 where
  pub moved : List ℕ
  pub bytes : moved ++ held_bytes new ≡ held_bytes old
  pub class : new.class ≡ old.class
  pub written : (taken : List ℕ) (fs : List Frame) → AreFramesWritten taken old fs
      → AreFramesWritten (taken ++ moved) new fs

-- these are bytes that were there before, and then the bytes that were taken of these frames
pub record AreBytesBehind (base bytes : List ℕ) (held : WaitingFrames)
    (fs : List Frame) : Type 0 where
  pub taken : List ℕ
  pub is : bytes ≡ base ++ taken
  pub written : AreFramesWritten taken held fs

-- what was appended and what waits in the buffer are bytes that were
-- there before, and then the bytes that were taken of these frames
abbrev pub IsWriterOf : List ℕ → List ℕ → Writing → List Frame → Type 0
IsWriterOf base out w fs = AreBytesBehind base (out ++ w.unsent) w.held fs

-- A frame was given: more was appended, and the writer is then
-- a writer of the frames that were given before and this one.
pub record AcceptsFrame (name : List ℕ) (f : Frame) (old new : Writing)
    (before after : Files) : Type 0 where
  pub passed : List ℕ
  pub files : after ≡ with_appended_bytes before name passed
  pub writer : (base out : List ℕ) (fs : List Frame) → IsWriterOf base out old fs
      → IsWriterOf base (out ++ passed) new (fs ++ f ∷ [])

-- A write failed: of the bytes that waited before the file and the bytes of
-- frames that were forwarded, a prefix was appended; the other frames wait.
pub record ForwardsPart (name : List ℕ) (old : Writing) (held : WaitingFrames)
    (before after : Files) : Type 0 where
  pub on : ForwardsFrames old.held held
  pub prefix : AppendedPrefix name (old.unsent ++ on.moved) before after

-- A frame was given and a write failed: a prefix was appended of bytes
-- that no later main data can reach; the frames after these bytes wait.
pub record WritesPart (name : List ℕ) (f : Frame) (old : Writing) (held : WaitingFrames)
    (before after : Files) : Type 0 where
  pub settled : List ℕ
  pub prefix : AppendedPrefix name settled before after
  pub writer : (base out : List ℕ) (fs : List Frame) → IsWriterOf base out old fs
      → AreBytesBehind base (out ++ settled) held (fs ++ f ∷ [])

-- frames were forwarded into the buffer, and what didn't fit was forwarded out of it
abbrev pub ForwardsBytes : List ℕ → Writing → Writing → Files → Files → Type 0
ForwardsBytes name old new before after =
    AppendsWaiting name (waiting_bytes old) (waiting_bytes new) before after
