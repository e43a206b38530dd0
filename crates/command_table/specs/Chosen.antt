-- The frames that a command chooses from its inputs, without plans, slots or bytes.
use Rattle.std.specs.Prelude.{Bool, Err, false, flat_map, length, List, map, Ok, Result}
use Rattle.std.specs.Prelude.{slice_range, true, unwrap_or, ℕ, [], ◌++◌, ◌+◌, ◌∷◌}
use Rattle.commands.specs.declared.fault.EditFault.{EditFault}
use Rattle.cue_sheet.specs.{Cues.cue_of, Places.frame_at, declared.cue_fault.CueFault.CueFault}
use Rattle.cue_sheet.specs.declared.place.Place.{Place, TheVariants.End}
use Rattle.cut_edits.specs.Exact.{survey_without_head}
use Rattle.exact_span.specs.{Places.sample_at, PlayedPositions.{length_of_played, played_of}}
use Rattle.exact_span.specs.{Spans.span_of, declared.exact_place.ExactPlace.ExactPlace}
use Rattle.exact_span.specs.declared.exact_place.ExactPlace.TheVariants.{Place as Position}
use Rattle.frame_header.specs.Tables.{class_of}
use Rattle.joined_inputs.specs.Parts.{join_parts}
use Rattle.laying.specs.{KeptFields.fields_of_head, Relaid.{FilePart, part_stream}}
use Rattle.outside.specs.Files.{Contents}
use Rattle.remove_edits.specs.Removed.{parts_left}
use Rattle.seam_plan.specs.declared.stretches.Part.{Part}
use Rattle.seamless_edits.specs.Seamless.{splice_parts}
use Rattle.sync_survey.specs.Faults.{stream_of, stream_of_survey, SurveyFields, unbounded_survey}
use Rattle.sync_survey.specs.{MainData.StreamFrame, declared.survey_fault.SurveyFault.SurveyFault}

-- ---- the frames of one output

-- which frames a stream has
pub data Frames : Type 0 where
  -- these frames and no others
  Alone : List StreamFrame → Frames
  -- the frames of these parts, each part after at most one lead-in, and no others
  InParts : List (List StreamFrame) → Frames

-- ---- frames of the inputs

-- the bytes of the file with this name; none where there is no such file
abbrev pub file_bytes_of : Contents → List ℕ → List ℕ
file_bytes_of files name = unwrap_or (files name) []

-- all frames of the file with this name
abbrev pub named_frames : Contents → List ℕ → List StreamFrame
named_frames files name = stream_of (file_bytes_of files name)

-- the number of the frame that a position is before
abbrev pub position_number : List StreamFrame → Place → ℕ
position_number [] place = 0
position_number (first ∷ frames) place =
    frame_at (class_of first.header) (length (first ∷ frames)) place

-- the frames from one position to before another
abbrev pub frames_between : List StreamFrame → Place → Place → List StreamFrame
frames_between frames from to =
    slice_range frames (position_number frames from) (position_number frames to)

-- the frames that a decoder needs for the samples from one place to before another, counted among
-- those that are played, as they are in the stream of the file whose head is set apart
abbrev pub span_frames : ExactPlace → ExactPlace → List ℕ → SurveyFields → List StreamFrame
span_frames from to file s =
    let played = played_of (fields_of_head file s.head) s.class (length s.frames) in
    let samples = length_of_played played in
    let span = span_of s.class (played.start + sample_at s.class samples from)
    (played.start + sample_at s.class samples to) in
    slice_range (stream_of_survey file (survey_without_head s)) span.first span.last

-- the frames needed in a file with this survey; none where it has a fault
abbrev pub surveyed_span_frames : ExactPlace → ExactPlace → List ℕ → Result SurveyFields SurveyFault
    → List StreamFrame
surveyed_span_frames from to file (Ok s) = span_frames from to file s
surveyed_span_frames from to file (Err fault) = []

-- the frames needed in a file
abbrev pub frames_needed : ExactPlace → ExactPlace → List ℕ → List StreamFrame
frames_needed from to file = surveyed_span_frames from to file (unbounded_survey file)

-- the frames of each piece, from the first place to the next, and so on
abbrev pub piece_frames_from : {P : Type 0} → (P → P → List StreamFrame) → P → List P → List Frames
piece_frames_from between from [] = []
piece_frames_from between from (to ∷ places) =
    InParts (between from to ∷ []) ∷ piece_frames_from between to places

-- the frames of each piece between these places, in order
abbrev pub piece_frames : {P : Type 0} → (P → P → List StreamFrame) → List P → List Frames
piece_frames between [] = []
piece_frames between (from ∷ places) = piece_frames_from between from places

-- the frames needed for the samples of a file from one place to before another
abbrev pub frames_needed_between : List ℕ → ExactPlace → ExactPlace → List StreamFrame
frames_needed_between file from to = frames_needed from to file

-- The frames of inputs that are joined without seams: of each input all frames but those that are
-- left out at its front, as they are in the stream of the file whose head is set apart. How many
-- are left out depends on where the other inputs have room (`seamless_join` of `seam_plan`).
abbrev pub joined_splice_frames : Result (List FilePart) EditFault → List StreamFrame
joined_splice_frames (Ok (first ∷ parts)) = flat_map part_stream (splice_parts first parts)
joined_splice_frames _ = []

-- The frames of each longest range of frames that stay when stretches are taken out of a file with
-- this survey, as they are in the stream of the file whose head is set apart; none where the
-- stretches are refused.
abbrev pub staying_range_frames : List ℕ → SurveyFields → Result (List Part) EditFault
    → List (List StreamFrame)
staying_range_frames file s (Ok parts) = map (λ (part : Part).
    slice_range (stream_of_survey file (survey_without_head s)) part.from part.to) parts
staying_range_frames file s (Err fault) = []

-- those left in a file with this survey; none where it has a fault
abbrev pub surveyed_staying_frames : List (ExactPlace × ExactPlace) → List ℕ
    → Result SurveyFields SurveyFault → List (List StreamFrame)
surveyed_staying_frames stretches file (Ok s) = staying_range_frames file s (parts_left stretches s)
surveyed_staying_frames stretches file (Err fault) = []

-- those left in a file
abbrev pub staying_frames : List (ExactPlace × ExactPlace) → List ℕ → List (List StreamFrame)
staying_frames stretches file = surveyed_staying_frames stretches file (unbounded_survey file)

-- the positions that a cue sheet gives: where its tracks start, and the end
abbrev pub cue_positions : Result (List Place) CueFault → List Place
cue_positions (Ok starts) = starts ++ End ∷ []
cue_positions (Err fault) = []

-- the positions that the bytes of a cue sheet give
abbrev pub positions_in : List ℕ → List Place
positions_in sheet = cue_positions (cue_of sheet)

-- the frames of each piece between the positions of a
-- cue sheet: to a frame, or those needed for its samples
abbrev pub sheet_piece_frames : Bool → Contents → List ℕ → List ℕ → List Frames
sheet_piece_frames false files input sheet =
    piece_frames (frames_between (named_frames files input))
    (positions_in (file_bytes_of files sheet))
sheet_piece_frames true files input sheet =
    piece_frames (frames_needed_between (file_bytes_of files input))
    (map Position (positions_in (file_bytes_of files sheet)))

-- the frames of a join: of each input all, or those that aren't left out
abbrev pub frames_joined : Bool → Contents → List (List ℕ) → Frames
frames_joined false files inputs = InParts (map (named_frames files) inputs)
frames_joined true files inputs = InParts (joined_splice_frames (join_parts files inputs) ∷ [])
