-- What a change of gains makes of the survey of a file, and of the stream that the file holds.
pub use Rattle.sync_survey.specs.Faults.{HoldsStream, stream_of, surveyed_stream}
use Rattle.std.specs.List.{enumerate_from}
use Rattle.std.specs.Prelude.{drop, if◌then◌else◌, List, map, nat_lt, option_map, take, ℕ, ◌++◌}
use Rattle.std.specs.Prelude.{◌-◌, ◌≡◌}
use Rattle.moved_gains.specs.Gains.{moved_side, moved_side_unless_lost}
use Rattle.requests.specs.declared.shift.Steps.{Steps}
use Rattle.sync_survey.specs.Faults.{IsWellFormed, stream_of_survey, SurveyFields}
use Rattle.sync_survey.specs.{MainData.{main_bytes, stream_frame, StreamFrame}, Row.Row}
use Rattle.sync_survey.specs.declared.places.{Head.Head, Piece.Piece}

-- ---- the survey of the edited file

-- the number of bytes of junk before the first frame, which are dropped
abbrev pub junk_length : SurveyFields → ℕ
junk_length s = s.first - s.junk

-- a frame that isn't lost has its gains moved by the steps at its offset,
-- and each frame is `gap` bytes nearer to the beginning of the file
abbrev pub edited_row : (ℕ → Steps) → ℕ → Row → Row
edited_row steps gap row = record row {
  offset = row.offset - gap;
  side = moved_side_unless_lost row.lost (steps row.offset) row.side;
}

-- a head is `gap` bytes nearer to the beginning, and stays as it is
abbrev pub edited_head : ℕ → Head → Head
edited_head gap head = record head { offset = head.offset - gap }

-- a block before the first frame stays where it is, and a
-- block after it is `gap` bytes nearer to the beginning
abbrev pub edited_block : ℕ → ℕ → Piece → Piece
edited_block first gap piece =
    if nat_lt piece.offset first then piece else record piece { offset = piece.offset - gap }

-- What a survey finds in the edited file: the same frames with moved gains, blocks, head and
-- class, at their offsets without the junk. The first frame begins where the junk began.
unfoldable pub edited_survey : (ℕ → Steps) → SurveyFields → SurveyFields
edited_survey steps s = record {
  frames = map (edited_row steps (junk_length s)) s.frames;
  blocks = map (edited_block s.first (junk_length s)) s.blocks;
  head = option_map (edited_head (junk_length s)) s.head;
  junk = s.junk;
  first = s.junk;
  class = s.class;
  length = s.length - junk_length s;
}

-- the bytes of the file except the junk before its first frame
abbrev pub file_without_junk : SurveyFields → List ℕ → List ℕ
file_without_junk s file = take s.junk file ++ drop s.first file

-- ---- the stream

-- a frame of a stream with moved gains: its header and
-- its main data stay; a lost frame has no gains there
abbrev pub moved_stream_frame : Steps → StreamFrame → StreamFrame
moved_stream_frame steps frame = record frame { side = moved_side steps frame.side }

-- the stream of a surveyed file, with the gains of each frame moved by the steps at its offset
unfoldable pub moved_stream_of : (ℕ → Steps) → List ℕ → SurveyFields → List StreamFrame
moved_stream_of steps file s =
    map (λ (p : ℕ × Row). moved_stream_frame (steps p.1.offset)
    (stream_frame (main_bytes file s.head s.frames) s.head s.frames p.0 p.1))
    (enumerate_from 0 s.frames)

-- Both files are well-formed, and the stream of the new one is the stream of the file
-- with the gains of each frame moved: the same number of frames in the same order, with
-- the same headers, the same main data, and the same side information except the gains.
pub record IsStreamMoved (steps : ℕ → Steps) (file new : List ℕ) : Type 0 where
  pub before : IsWellFormed file
  pub after : IsWellFormed new
  pub stream : stream_of_survey new after.0 ≡ moved_stream_of steps file before.0
