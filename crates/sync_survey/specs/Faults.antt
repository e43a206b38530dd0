-- What is at fault in a file, and what a survey of a file without fault says.
pub use Rattle.sync_survey.specs.MainData.{points_too_far}
use Rattle.std.specs.List.{enumerate_from}
use Rattle.std.specs.Prelude.{Bool, drop, Err, flat_map, if◌then◌else◌, length, List, nat_lt, None}
use Rattle.std.specs.Prelude.{not, Ok, Option, option_to_list, Result, Some, ℕ, [], ◌&&◌, ◌*◌, ◌++◌}
use Rattle.std.specs.Prelude.{◌+◌, ◌==◌, ◌∷◌, ◌≡◌, ◌≤◌}
use Rattle.frame_header.specs.{Fields.ClassFields, Tables.class_of}
use Rattle.side_info.specs.{CheckWord.check_word_of, Frame.stored_crc, Side.payload_bits}
use Rattle.sync_survey.specs.Items.{same_class}
use Rattle.sync_survey.specs.MainData.{data_end_before, end_of_data, lacks_data, main_bytes}
use Rattle.sync_survey.specs.MainData.{marked_rows, own_area, place, rows_of, start_of_data}
use Rattle.sync_survey.specs.{MainData.{stream_frames, StreamFrame}, Row.Row, Start.start_of}
use Rattle.sync_survey.specs.{Walk.walk_from, declared.places.{Head.Head, Piece.Piece, Start.Start}}
use Rattle.sync_survey.specs.declared.survey_fault.SurveyFault.{SurveyFault}
use Rattle.sync_survey.specs.declared.survey_fault.SurveyFault.TheVariants.{BackPointer, CheckWord}
use Rattle.sync_survey.specs.declared.survey_fault.SurveyFault.TheVariants.{FreeFormat, LostSync}
use Rattle.sync_survey.specs.declared.survey_fault.SurveyFault.TheVariants.{Mixed, NoFrame, Overlap}
use Rattle.sync_survey.specs.declared.survey_fault.SurveyFault.TheVariants.{Overrun, TooManyFrames}
use Rattle.sync_survey.specs.declared.survey_fault.SurveyFault.TheVariants.{Truncated}
use Rattle.sync_survey.specs.declared.surveys.Survey.{Survey}

-- ---- a frame

-- this fault, if the test holds
abbrev pub fault_if_true : Bool → SurveyFault → List SurveyFault
fault_if_true holds fault = if holds then fault ∷ [] else []

-- the frame is protected, and this check word isn't the right one
abbrev pub has_wrong_crc : ℕ → Row → Bool
has_wrong_crc said r = r.header.protected && not (said == check_word_of r.header r.side)

-- the main data of a frame whose own area begins at this place begin before the end of the main
-- data before them
abbrev pub overlaps : ℕ → ℕ → Row → Bool
overlaps place ended r = nat_lt (start_of_data place r) ended

-- the main data of a frame end after its own area
abbrev pub overruns : ℕ → Row → Bool
overruns place r = nat_lt (place + own_area r.header) (end_of_data place r)

-- how many bits there are for a frame's main data
abbrev pub room_for_data : Row → ℕ
room_for_data r = 8 * (r.side.main_data_begin + own_area r.header)

-- the faults of a frame's main data, in order, if the frame isn't lost: they begin before all main
-- data of the file, begin before the end of the main data before them, or end after the frame's own
-- area (main_data_begin, ISO/IEC 11172-3 and 13818-3, 2.4.2.7)
abbrev pub own_faults : ℕ → ℕ → Row → List SurveyFault
own_faults place ended r =
    fault_if_true (points_too_far place r) (BackPointer r.offset r.side.main_data_begin place)
    ++ fault_if_true (overlaps place ended r) (Overlap r.offset)
    ++ fault_if_true (overruns place r) (Overrun r.offset (payload_bits r.side) (room_for_data r))

-- the faults of a frame's main data; a lost frame has none
abbrev pub data_faults : ℕ → ℕ → Row → List SurveyFault
data_faults place ended r = if lacks_data place ended r then [] else own_faults place ended r

-- the fault of a frame's check word
abbrev pub crc_faults : ℕ → Row → List SurveyFault
crc_faults said r =
    fault_if_true (has_wrong_crc said r) (CheckWord r.offset said (check_word_of r.header r.side))

-- the fault of a frame that has as many frames before it as are allowed
abbrev pub count_faults : ℕ → ℕ → Row → List SurveyFault
count_faults count allowed r = fault_if_true (count == allowed) (TooManyFrames r.offset)

-- the faults of a frame of the class, in order: a wrong check word, the faults of its main data,
-- and that it is one more than allowed
abbrev pub later_faults : ℕ → ℕ → ℕ → ℕ → ℕ → Row → List SurveyFault
later_faults said allowed place ended count r =
    crc_faults said r ++ data_faults place ended r ++ count_faults count allowed r

-- The faults of a frame, in order, given the check word that is in it, the class, how many frames
-- the file may have, the place of the frame's own area among all areas, the end of the main data
-- before it, and how many frames are before it.
unfoldable pub faults_at : ℕ → ClassFields → ℕ → ℕ → ℕ → ℕ → Row → List SurveyFault
faults_at said class allowed place ended count r =
    fault_if_true (not (same_class (class_of r.header) class)) (Mixed r.offset)
    ++ crc_faults said r
    ++ data_faults place ended r
    ++ count_faults count allowed r

-- the faults of frame i of these
abbrev pub frame_faults : List ℕ → Option Head → ClassFields → ℕ → List Row → ℕ → Row
    → List SurveyFault
frame_faults file head class allowed rows i r = faults_at (stored_crc (drop r.offset file)) class
    allowed (place head rows i) (data_end_before head rows i) i r

-- the faults of all of these frames, in order
unfoldable pub all_faults : List ℕ → Option Head → ClassFields → ℕ → List Row → List SurveyFault
all_faults file head class allowed rows = flat_map
    (λ (p : ℕ × Row). frame_faults file head class allowed rows p.0 p.1) (enumerate_from 0 rows)

-- ---- a file

-- the first of these faults; a file's faults are in order of offset
abbrev pub first_of : List SurveyFault → Option SurveyFault
first_of [] = None
first_of (fault ∷ later) = Some fault

-- the class of the first frame of the walk, even if it is the head
abbrev pub class_from : Start → ClassFields
class_from start = class_of start.first.header

-- all faults of a file with this start, in order of offset: the faults of its frames, and the one
-- where the walk stops
unfoldable pub faults_from : List ℕ → ℕ → Start → List SurveyFault
faults_from file allowed start =
    let walk = walk_from file start in
    all_faults file walk.head (class_from start) allowed (rows_of file walk.frames)
    ++ option_to_list walk.fault

-- what a survey says of a file: its frames, blocks, head, junk, first offset, class and length
pub record SurveyFields : Type 0 where
  pub frames : List Row
  pub blocks : List Piece
  pub head : Option Head
  -- where the junk before the first frame begins; it ends where the first frame begins
  pub junk : ℕ
  pub first : ℕ
  pub class : ClassFields
  pub length : ℕ

-- what a survey says of a file with this start, if there is no fault
unfoldable pub fields_from : List ℕ → Start → SurveyFields
fields_from file start =
    let walk = walk_from file start in record {
      frames = marked_rows walk.head (rows_of file walk.frames);
      blocks = walk.blocks;
      head = walk.head;
      junk = start.front_end;
      first = start.first.offset;
      class = class_from start;
      length = length file;
    }

-- the survey, unless there is a fault
abbrev pub fault_or_survey : Option SurveyFault → SurveyFields → Result SurveyFields SurveyFault
fault_or_survey (Some fault) fields = Err fault
fault_or_survey None fields = Ok fields

-- the survey of a file, given its start, or why there is none
abbrev pub survey_from_start : List ℕ → ℕ → Result Start SurveyFault
    → Result SurveyFields SurveyFault
survey_from_start file allowed (Err fault) = Err fault
survey_from_start file allowed (Ok start) =
    fault_or_survey (first_of (faults_from file allowed start)) (fields_from file start)

-- the survey of a file that may have `allowed` frames, or its first fault
unfoldable pub survey_fields : List ℕ → ℕ → Result SurveyFields SurveyFault
survey_fields file allowed = survey_from_start file allowed (start_of file)

-- the offset of a fault of the bytes, 0 for any other fault
abbrev pub fault_offset : SurveyFault → ℕ
fault_offset (NoFrame at) = at
fault_offset (LostSync at) = at
fault_offset (Truncated at) = at
fault_offset (FreeFormat at) = at
fault_offset (Mixed at) = at
fault_offset (CheckWord at said right) = at
fault_offset (BackPointer at begin present) = at
fault_offset (Overlap at) = at
fault_offset (Overrun at bits room) = at
fault_offset (TooManyFrames at) = at
fault_offset _ = 0

-- none of these faults is before this offset
abbrev pub NoneBefore : ℕ → List SurveyFault → Type 0
NoneBefore at [] = Unit {0}
NoneBefore at (fault ∷ later) = (at ≤ fault_offset fault) × NoneBefore at later

-- what a survey in the code says
abbrev pub survey_view : Survey → SurveyFields
survey_view s = record {
  frames = s.frames.items;
  blocks = s.blocks.items;
  head = s.head;
  junk = s.start.front_end;
  first = s.start.first.offset;
  class = class_from s.start;
  length = s.length;
}

-- the greatest length of an input in bytes
abbrev pub longest_file : ℕ
longest_file = 1073741824

-- ---- well-formed files, and their streams

-- the survey of a file that may have any number of frames: a file has no more frames than bytes
abbrev pub unbounded_survey : List ℕ → Result SurveyFields SurveyFault
unbounded_survey file = survey_fields file (length file + 1)

-- a file is well-formed exactly if this survey has no fault
abbrev pub IsWellFormed : List ℕ → Type 0
IsWellFormed file = (s : SurveyFields) × (unbounded_survey file ≡ Ok s)

-- the stream of a file that has been surveyed
unfoldable pub stream_of_survey : List ℕ → SurveyFields → List StreamFrame
stream_of_survey file s = stream_frames (main_bytes file s.head s.frames) s.head s.frames

-- the stream of a file with this survey; no frames if the survey has a fault
abbrev pub surveyed_stream : List ℕ → Result SurveyFields SurveyFault → List StreamFrame
surveyed_stream file (Ok s) = stream_of_survey file s
surveyed_stream file (Err fault) = []

-- the stream of a well-formed file; no frames if the file isn't well-formed
unfoldable pub stream_of : List ℕ → List StreamFrame
stream_of file = surveyed_stream file (unbounded_survey file)

-- the file is well-formed, and this is its stream
pub record HoldsStream (file : List ℕ) (stream : List StreamFrame) : Type 0 where
  pub well_formed : IsWellFormed file
  pub stream_is : stream_of file ≡ stream
