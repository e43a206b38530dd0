-- Frames chosen from surveyed files, and the same frames in the slots of a plan with all
-- main data repacked (main_data_begin and main data, ISO/IEC 11172-3 and 13818-3, 2.4.2.7).
use Rattle.std.specs.List.{enumerate_from}
use Rattle.std.specs.Prelude.{Bool, Contains, false, if◌then◌else◌, length, List, map, slice_range}
use Rattle.std.specs.Prelude.{true, ℕ, [], ◌*◌, ◌++◌, ◌+◌, ◌-◌, ◌/◌, ◌<◌, ◌∷◌, ◌≡◌, ◌≤◌}
use Rattle.bit_fields.specs.Bits.{bytes}
use Rattle.frame_header.specs.Fields.{ClassFields, HeaderFields, IsHeader, IsSlot, SlotFields}
use Rattle.frame_writer.specs.{Frames.Frame, Laid.zeros}
use Rattle.laying.specs.{Needs.need_of, Surveys.CanBeRelaid}
use Rattle.side_info.specs.Side.{no_side}
use Rattle.slot_plan.specs.declared.needs.{Need.Need, Placed.Placed}
use Rattle.sync_survey.specs.Faults.{stream_of_survey, SurveyFields}
use Rattle.sync_survey.specs.MainData.{granule_lengths, main_bytes, payload_at, place, row_side}
use Rattle.sync_survey.specs.{MainData.{split_bits, start_of_data, StreamFrame}, Row.Row}

-- ---- the frames of a surveyed file

-- these bits in as few bytes as hold them, with the unused low bits of the last byte 0
abbrev pub packed_bytes : List ℕ → List ℕ
packed_bytes bs = bytes (bs ++ zeros (8 * ((length bs + 7) / 8) - length bs))

-- the bytes of the main data of frame i; a lost frame has none
abbrev pub payload_of : List ℕ → SurveyFields → ℕ → Row → List ℕ
payload_of file s i r = packed_bytes (payload_at (main_bytes file s.head s.frames)
    (start_of_data (place s.head s.frames i) r) (row_side r))

-- frame i with its main data, in as few bytes as hold them; a lost frame is an empty one
abbrev pub survey_frame : List ℕ → SurveyFields → ℕ → Row → Frame
survey_frame file s i r = record {
  kept = record { header = r.header; side = row_side r };
  payload = payload_of file s i r;
}

-- all frames
unfoldable pub all_frames : List ℕ → SurveyFields → List Frame
all_frames file s = map (λ (p : ℕ × Row). survey_frame file s p.0 p.1) (enumerate_from 0 s.frames)

-- ---- the frames that are chosen

-- the frames of a surveyed file from number `from` up to, but not including, number `to`
pub record FilePart : Type 0 where
  pub file : List ℕ
  pub survey : SurveyFields
  pub from : ℕ
  pub to : ℕ

-- the rows of the survey for the frames of a part
abbrev pub part_rows : FilePart → List Row
part_rows p = slice_range p.survey.frames p.from p.to

-- the frames of a part, with their main data
abbrev pub part_frames : FilePart → List Frame
part_frames p = slice_range (all_frames p.file p.survey) p.from p.to

-- the frames of a part in the stream of the file
abbrev pub part_stream : FilePart → List StreamFrame
part_stream p = slice_range (stream_of_survey p.file p.survey) p.from p.to

-- the file has this survey, the frames are of this class, and the part has a frame
pub record IsPart (c : ClassFields) (p : FilePart) : Type 0 where
  pub has : CanBeRelaid p.file p.survey
  pub class : p.survey.class ≡ c
  pub some : p.from < p.to
  pub within : p.to ≤ length p.survey.frames

-- each of these is such a part
abbrev pub AreParts : ClassFields → List FilePart → Type 0
AreParts c [] = Unit {0}
AreParts c (p ∷ parts) = IsPart c p × AreParts c parts

-- what the planner is given for a part
abbrev pub part_needs : FilePart → List Need
part_needs p = map need_of (part_rows p)

-- ---- the chosen frames as planned

-- a frame in its slot, with its main_data_begin
abbrev pub frame_with_place : Placed → Frame → Frame
frame_with_place p f = record {
  kept = record {
    header = record f.kept.header { slot = p.slot };
    side = record f.kept.side { main_data_begin = p.begin };
  };
  payload = f.payload;
}

-- a lead-in: an empty frame without a check word, otherwise with the header of the frame after it
abbrev pub lead_in_before : Placed → HeaderFields → Frame
lead_in_before p h = record {
  kept = record {
    header = record h { protected = false; slot = p.slot };
    side = record no_side { main_data_begin = p.begin };
  };
  payload = [];
}

-- the lead-in at this place of the plan, before this frame
abbrev pub lead_in_with_place : Placed → Frame → Frame
lead_in_with_place p behind = lead_in_before p behind.kept.header

-- what is at a place of the plan: the lead-in before a frame, or the frame
abbrev pub planned_frame : Placed → Frame → Frame
planned_frame p f = if p.lead_in then lead_in_with_place p f else frame_with_place p f

-- what is left after a place: after a lead-in all frames, after a frame the others
abbrev pub rest_behind : {X : Type 0} → Bool → X → List X → List X
rest_behind true x xs = x ∷ xs
rest_behind false x xs = xs

-- the lead-ins and frames of a plan, in order
unfoldable pub relaid_frames : List Frame → List Placed → List Frame
relaid_frames [] placed = []
relaid_frames (f ∷ frames) [] = []
relaid_frames (f ∷ frames) (p ∷ placed) =
    planned_frame p f ∷ relaid_frames (rest_behind p.lead_in f frames) placed

-- ---- their stream

-- a lead-in as a frame of a stream, made from the frame after it:
-- all fields of its side information are 0, and it has no main data
abbrev pub silent_lead_in : StreamFrame → StreamFrame
silent_lead_in behind = record {
  header = record behind.header { protected = false };
  side = no_side;
  payload = split_bits (granule_lengths behind.header no_side) [];
}

-- the frames of a stream with the lead-ins of a plan, otherwise unchanged
unfoldable pub stream_with_lead_ins : List Placed → List StreamFrame → List StreamFrame
stream_with_lead_ins placed [] = []
stream_with_lead_ins [] (f ∷ stream) = []
stream_with_lead_ins (p ∷ placed) (f ∷ stream) = (if p.lead_in then silent_lead_in f else f)
    ∷ stream_with_lead_ins placed (rest_behind p.lead_in f stream)

-- the slots that frames may choose from are slots of the standard
abbrev pub AreSlots : (HeaderFields → List SlotFields) → Type 0
AreSlots choices =
    (h : HeaderFields) (slot : SlotFields) → IsHeader h → Contains (choices h) slot → IsSlot slot
