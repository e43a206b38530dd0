-- Frames of a stream on their way to a file.
use Rattle.std.specs.Prelude.{List, ℕ, [], ◌≡◌}
use Rattle.drill.specs.Drill.{data_begin, drawn_frame, drill_header, drill_state_at}
use Rattle.drill.specs.declared.making.DrillWriter.{DrillWriter}
use Rattle.frame_header.specs.Tables.{class_of}
use Rattle.frame_writer.specs.Frames.{Frame, IsNextSettled, reach_of}
use Rattle.frame_writer.specs.Writing.{IsWriterOf, Writing, writing_of}
use Rattle.outside.specs.Files.{Files, with_appended_bytes}

-- what waits for the file
abbrev pub drill_writing : DrillWriter → Writing
drill_writing m = writing_of m.writer m.unsent

-- the next frame may be given: it is drawn with the greatest main_data_begin that it may have
pub record IsNextDrawn (m : DrillWriter) : Type 0 where
  pub class : m.writer.class ≡ class_of drill_header
  pub unsettled : IsNextSettled m.writer → ⊥

-- the frame that is drawn next
abbrev pub next_frame : DrillWriter → Frame
next_frame m = drawn_frame (reach_of m.writer) m.draws.state

-- the next frame is frame i of the stream of this number
pub record IsBeforeFrame (seed i : ℕ) (m : DrillWriter) : Type 0 where
  pub next : IsNextDrawn m
  pub state : m.draws.state ≡ (drill_state_at seed i).state
  pub reach : reach_of m.writer ≡ data_begin i (drill_state_at seed i)

-- The bytes of these frames were appended to the file, except those that wait.
pub record HasMade (name : List ℕ) (w : Writing) (frames : List Frame)
    (before after : Files) : Type 0 where
  pub passed : List ℕ
  pub files : after ≡ with_appended_bytes before name passed
  pub writer : IsWriterOf [] passed w frames
