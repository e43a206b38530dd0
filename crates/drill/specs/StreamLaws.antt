-- What a survey finds in a stream that is made from a number.
use Rattle.std.specs.Prelude.{All, Contains, false, length, List, map, None, Ok, ℕ, [], ◌*◌, ◌<◌}
use Rattle.std.specs.Prelude.{◌∷◌, ◌≡◌, ◌≤◌}
use Rattle.drill.specs.Drill.{drill_frame_at, drill_frames, drill_header, drill_stream}
use Rattle.frame_header.specs.{Fields.{HeaderFields, SlotFields}, Tables.{class_of, window_of}}
use Rattle.laying.specs.{LaidFiles.{rows_from, stream_entry}, Needs.need_of}
use Rattle.slot_plan.specs.{Plans.IsPlan, declared.needs.{Need.Need, Placed.Placed}}
use Rattle.sync_survey.specs.{Faults.{HoldsStream, SurveyFields}, Survey.survey_of}

-- there is no head, no block and no junk, and the frames follow in order from the first byte on;
-- none is lost
abbrev pub drill_fields : ℕ → ℕ → SurveyFields
drill_fields seed count = record {
  frames = rows_from 0 (drill_frames seed count);
  blocks = [];
  head = None;
  junk = 0;
  first = 0;
  class = class_of drill_header;
  length = length (drill_stream seed count);
}

-- Whatever the number, a stream of one frame or more is well-formed,
-- and holds the frames and the main data that were drawn.
abbrev pub StreamsHold : Type 0
StreamsHold = (seed count : ℕ) → 0 < count
    → HoldsStream (drill_stream seed count) (map stream_entry (drill_frames seed count))

-- A survey that allows that many frames finds them where they were put. A stream of 20,000 frames
-- isn't too long.
abbrev pub StreamsAreSurveyed : Type 0
StreamsAreSurveyed =
    (seed count allowed : ℕ) → 0 < count → count ≤ 20000 → count ≤ allowed
    → survey_of (drill_stream seed count) allowed ≡ Ok (drill_fields seed count)

-- each frame of the stream has 417 bytes
abbrev pub StreamsAreLong : Type 0
StreamsAreLong = (seed count : ℕ) → length (drill_stream seed count) ≡ 417 * count

-- the main data of the first frame begin in its own area
abbrev pub FirstBeginsInItsArea : Type 0
FirstBeginsInItsArea = (seed : ℕ) → (drill_frame_at seed 0).kept.side.main_data_begin ≡ 0

-- what the planner is given for such a stream
abbrev pub drill_needs : ℕ → ℕ → List Need
drill_needs seed count = map need_of (rows_from 0 (drill_frames seed count))

-- If each frame may keep its own slot, the frames have a layout without a lead-in, so no plan of
-- them has one, whether each keeps its slot or may have any.
abbrev pub StreamsNeedNoLeadIn : Type 0
StreamsNeedNoLeadIn =
    (seed count : ℕ) (choices : HeaderFields → List SlotFields) (placed : List Placed)
    → Contains (choices drill_header) drill_header.slot
    → IsPlan (window_of drill_header.version) choices (drill_needs seed count ∷ []) placed
    → All (λ p. p.lead_in ≡ false) placed
