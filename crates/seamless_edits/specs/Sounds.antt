-- Frames of inputs by their places, and what is compared when two may sound alike.
use Rattle.std.specs.Prelude.{All, Bool, bytes_eq, length, List, map, None, Option, option_and_then}
use Rattle.std.specs.Prelude.{slice_get, Some, unwrap_or, ℕ, [], ◌&&◌, ◌<◌, ◌≡◌}
use Rattle.frame_header.specs.{Fields.{ClassFields, HeaderFields}, HeaderBits.header_bits}
use Rattle.joined_inputs.specs.{Inputs.InputFields, Parts.whole_part}
use Rattle.laying.specs.Relaid.{FilePart, payload_of}
use Rattle.outside.specs.Files.{Contents}
use Rattle.seam_plan.specs.{Frames.SpliceFrame, declared.splice.FramePlace.FramePlace}
use Rattle.seamless_edits.specs.Seamless.{splice_frames, without_gains}
use Rattle.seamless_edits.specs.declared.main_data.Source.{Source}
use Rattle.side_info.specs.{Side.side_bits, declared.{granule.Granule.Granule, side.Side.Side}}
use Rattle.sync_survey.specs.{Faults.{survey_view, SurveyFields}, MainData.{no_slot, row_side}}
use Rattle.sync_survey.specs.Row.{Row}

-- ---- what is compared

-- a header without its slot
abbrev pub without_slot : HeaderFields → HeaderFields
without_slot h = record h { slot = no_slot }

-- a granule without its global gain
abbrev pub without_gain : Granule → Granule
without_gain g = record g { global_gain = 0 }

-- side information without gains and main_data_begin
abbrev pub compared_side : Side → Side
compared_side s = without_gains (record s { main_data_begin = 0 })

-- header and side information are the same except for slot, gains and main_data_begin
abbrev pub same_front : ClassFields → Row → Row → Bool
same_front class r q =
    bytes_eq (header_bits (without_slot r.header)) (header_bits (without_slot q.header))
    && bytes_eq (side_bits class (compared_side (row_side r)))
    (side_bits class (compared_side (row_side q)))

-- ---- frames by place

-- the row of this frame of an input, if there is one
abbrev pub frame_row : ℕ → Option InputFields → Option Row
frame_row frame None = None
frame_row frame (Some i) = slice_get i.survey.frames frame

-- the row of the frame at this place, if there is one
abbrev pub row_at : List InputFields → FramePlace → Option Row
row_at inputs place = frame_row place.frame (slice_get inputs place.input)

-- there is such an input, and it has such a frame
pub record IsFramePlace (inputs : List InputFields) (place : FramePlace) : Type 0 where
  pub item : InputFields
  pub input : slice_get inputs place.input ≡ Some item
  pub frame : place.frame < length item.survey.frames

-- this is the input at a place
pub record IsSourceAt (inputs : List InputFields) (place : ℕ) (source : Source) : Type 0 where
  pub item : InputFields
  pub at : slice_get inputs place ≡ Some item
  pub name : source.name.now ≡ item.name
  pub survey : survey_view source.survey.now ≡ item.survey

-- there is a frame at each of these places
abbrev pub AreFramePlaces : List InputFields → List FramePlace → Type 0
AreFramePlaces inputs places = All (IsFramePlace inputs) places

-- all inputs are of this class
abbrev pub AreOfClass : ClassFields → List InputFields → Type 0
AreOfClass class inputs = All (λ (i : InputFields). i.survey.class ≡ class) inputs

-- all inputs are of one class
abbrev pub AreOfOneClass : List InputFields → Type 0
AreOfOneClass inputs = (class : ClassFields) × AreOfClass class inputs

-- ---- what they sound like

-- all frames of an input, in a file with this content
abbrev pub whole_in : Contents → InputFields → FilePart
whole_in f i = whole_part (unwrap_or (f i.name) []) i.survey

-- the frames of all inputs as they take part in the decision
abbrev pub all_splice_frames : Contents → List InputFields → List (List SpliceFrame)
all_splice_frames f inputs = map (λ (i : InputFields). splice_frames (whole_in f i)) inputs

-- the sound of a frame; nothing if there is no frame
abbrev pub sound_of_frame : Option SpliceFrame → List ℕ
sound_of_frame None = []
sound_of_frame (Some frame) = frame.sound

-- the sound of the frame at this place
abbrev pub sound_at : List (List SpliceFrame) → FramePlace → List ℕ
sound_at lists place =
    sound_of_frame (option_and_then (λ (frames : List SpliceFrame). slice_get frames place.frame)
    (slice_get lists place.input))

-- the frames at these two places sound the same
abbrev pub same_sounds : List (List SpliceFrame) → FramePlace → FramePlace → Bool
same_sounds lists p q = bytes_eq (sound_at lists p) (sound_at lists q)

-- the main data of frame `k`, given its row; nothing if there is no such row
abbrev pub row_payload : List ℕ → ℕ → SurveyFields → Option Row → List ℕ
row_payload file k s None = []
row_payload file k s (Some r) = payload_of file s k r

-- the main data of frame `k` of an input; nothing if there is no input
abbrev pub input_payload : Contents → ℕ → Option InputFields → List ℕ
input_payload f k None = []
input_payload f k (Some i) =
    row_payload (unwrap_or (f i.name) []) k i.survey (slice_get i.survey.frames k)

-- the main data of a frame, given its place among all inputs
abbrev pub payload_at_place : Contents → List InputFields → FramePlace → List ℕ
payload_at_place f inputs place = input_payload f place.frame (slice_get inputs place.input)
