-- What holds of files that are joined without seams, whatever the code.
use Rattle.std.specs.List.{list_all}
use Rattle.std.specs.Prelude.{Bool, filter, length, List, map, None, not, Ok, Option, slice_get}
use Rattle.std.specs.Prelude.{slice_range, Some, true, zip, ℕ, [], ◌%◌, ◌&&◌, ◌*◌, ◌++◌, ◌+◌, ◌/◌}
use Rattle.std.specs.Prelude.{◌<◌, ◌==◌, ◌∷◌, ◌≡◌, ◌≤◌}
use Rattle.commands.specs.SingleOutput.{most_frames}
use Rattle.cue_sheet.specs.declared.place.Place.{Place}
use Rattle.exact_span.specs.{PlayedPositions.samples_in, declared.played.Played.Played}
use Rattle.frame_header.specs.{Fields.ClassFields, Tables.window_of}
use Rattle.joined_inputs.specs.Parts.{join_parts}
use Rattle.laying.specs.Laid.{file_laid, frames_laid, info_laid, LaidPart, stream_laid}
use Rattle.laying.specs.{LaidFiles.laid_file, Relaid.{FilePart, part_stream}, Written.front_blocks}
use Rattle.outside.specs.Files.{Contents}
use Rattle.seam_laws.specs.{PlayedParts.piece_lead_ins, SpliceLaws.splice_after}
use Rattle.seam_plan.specs.{Joins.has_lead_in, Seams.JointFrames}
use Rattle.seam_plan.specs.declared.seam.Seam.TheVariants.{Follows}
use Rattle.seamless_edits.specs.Seamless.{join_of_parts, part_brought, part_without_head}
use Rattle.seamless_edits.specs.Seamless.{seamless_file, seamless_stream, sound_of, splice_lead_ins}
use Rattle.side_info.specs.Side.{side_bits}
use Rattle.split_edits.specs.{Cutting.piece_parts, Split.{cut_part, cutting_of}}
use Rattle.split_edits.specs.declared.points.Points.{Points}
use Rattle.sync_survey.specs.{Faults.{stream_of, SurveyFields}, MainData.StreamFrame, Row.Row}
use Rattle.sync_survey.specs.Survey.{survey_of}

-- ---- positions

-- how many frames the splice has up to where the frames of one
-- input end in it: the input with this number, counted from 0
abbrev pub splice_end : FilePart → List FilePart → ℕ → ℕ
splice_end first parts number =
    length (splice_after (part_brought first) (join_of_parts first parts).joints number)

-- Position x of the input with this number is position y of the joined file: both are as far from
-- the end of the input's last frame.
abbrev pub IsSamePosition : FilePart → List FilePart → ℕ → FilePart → ℕ → ℕ → Type 0
IsSamePosition first parts number input x y =
    let samples = samples_in first.survey.class in
    y + (length input.survey.frames + (join_of_parts first parts).front) * samples
    ≡ x + (splice_lead_ins first parts + splice_end first parts number) * samples

-- Frame j of a stream is like frame i of another: both are the same
-- but for their gains. (Bit rate and padding are no part of a stream.)
pub record IsFrameAlike (class : ClassFields) (own : List StreamFrame) (i : ℕ)
    (all : List StreamFrame)
    (j : ℕ) : Type 0 where
  pub own_frame : StreamFrame
  pub frame : StreamFrame
  pub found : slice_get own i ≡ Some own_frame
  pub there : slice_get all j ≡ Some frame
  pub alike : sound_of class frame ≡ sound_of class own_frame

-- Position x of an input is in the joined file, at its offset in a frame like its own.
pub record IsPositionKept (first : FilePart) (parts : List FilePart) (number : ℕ) (input : FilePart)
    (x : ℕ)
    : Type 0 where
  pub place : ℕ
  pub at : IsSamePosition first parts number input x place
  pub offset : place % samples_in first.survey.class ≡ x % samples_in first.survey.class
  pub frame :
      let samples = samples_in first.survey.class in
      IsFrameAlike first.survey.class (part_stream (part_without_head input)) (x / samples)
      (seamless_stream (first ∷ parts)) (place / samples)

-- ---- an input that follows the one before it

-- Its first played position is where the played positions of the other end, so its samples come
-- right after the samples of the other; and each of its samples is kept.
pub record ComesBehind (first : FilePart) (parts : List FilePart) (number : ℕ)
    (before input : FilePart)
    : Type 0 where
  pub ended : Played
  pub played : Played
  pub ended_is : (part_brought before).played ≡ Some ended
  pub played_is : (part_brought input).played ≡ Some played
  pub seam : ℕ
  pub ends : IsSamePosition first parts number before ended.end seam
  pub starts : IsSamePosition first parts (number + 1) input played.start seam
  pub samples : (x : ℕ) → played.start ≤ x → x < played.end
      → IsPositionKept first parts (number + 1) input x

-- this holds for each input of a join that follows the one before it
abbrev pub FollowingSamplesStay : Type 0
FollowingSamplesStay =
    (files : Contents) (inputs : List (List ℕ)) (first : FilePart) (parts : List FilePart)
    (number : ℕ)
    (before input : FilePart) (joint : JointFrames) (out : ℕ)
    → join_parts files inputs ≡ Ok (first ∷ parts)
    → slice_get (first ∷ parts) number ≡ Some before → slice_get parts number ≡ Some input
    → slice_get (join_of_parts first parts).joints number ≡ Some joint → joint.seam ≡ Follows out
    → ComesBehind first parts number before input

-- ---- the pieces of a split, in order

-- the last place of a list that begins with this place
abbrev pub last_place : {P : Type 0} → P → List P → P
last_place place [] = place
last_place place (next ∷ places) = last_place next places

-- these files are the inputs of a join that isn't refused
pub record ArePieceInputs (laid : List LaidPart) (file : List ℕ) (s : SurveyFields)
    (first : FilePart)
    (parts : List FilePart) : Type 0 where
  pub files : Contents
  pub inputs : List (List ℕ)
  pub are : map files inputs ≡ map (λ (l : LaidPart). Some (file_laid l file s)) laid
  pub taken : join_parts files inputs ≡ Ok (first ∷ parts)

-- The first frame of a piece is a look-alike if the piece was given no lead-in
-- but has one at its front all the same: it is a frame of the recording.
abbrev pub is_look_alike : LaidPart → FilePart → Bool
is_look_alike laid part =
    piece_lead_ins laid == 0
    && has_lead_in (window_of part.survey.class.version) (part_brought part)

-- none of these pieces begins with a look-alike
abbrev pub has_no_look_alike : List LaidPart → List FilePart → Bool
has_no_look_alike laid parts =
    list_all (λ (p : LaidPart × FilePart). not (is_look_alike p.0 p.1)) (zip laid parts)

-- the file of chosen frames without the blocks after them
abbrev pub bare_row_file : Option Row → LaidPart → List ℕ → SurveyFields → List ℕ
bare_row_file None laid file s = []
bare_row_file (Some first) laid file s =
    laid_file (front_blocks file s) first.header (info_laid laid file s)
    (frames_laid laid file s) []

-- the file of chosen frames without the blocks after them, found by the number of the first one
abbrev pub bare_file : LaidPart → List ℕ → SurveyFields → List ℕ
bare_file laid file s = bare_row_file (slice_get s.frames laid.from) laid file s

-- all bits of the side information of a frame of this class are 0
abbrev pub is_empty_frame : ClassFields → StreamFrame → Bool
is_empty_frame class f = list_all (λ bit. bit == 0) (side_bits class f.side)

-- the frames that aren't empty
abbrev pub full_frames : ClassFields → List StreamFrame → List StreamFrame
full_frames class stream = filter (λ f. not (is_empty_frame class f)) stream

-- This part is what is cut from the first place to the last. The join of the pieces
-- is its file without the blocks after the frames, and has its stream, where no first
-- frame is a look-alike. In any case their frames are the same but for empty ones.
pub record JoinsTheFrames (from to : Place) (laid : List LaidPart) (file : List ℕ)
    (s : SurveyFields)
    (first : FilePart) (parts : List FilePart) : Type 0 where
  pub whole : LaidPart
  pub is : cut_part from to file s ≡ Ok whole
  pub same : has_no_look_alike laid (first ∷ parts) ≡ true
      → (seamless_file (first ∷ parts) ≡ bare_file whole file s)
      × (seamless_stream (first ∷ parts) ≡ stream_laid whole file s)
  pub full : full_frames s.class (seamless_stream (first ∷ parts))
      ≡ full_frames s.class (slice_range (stream_of file) whole.from whole.to)

-- this holds for the pieces of any split, where they are the inputs of a join, in order
abbrev pub SplitThenSeamlessJoin : Type 0
SplitThenSeamlessJoin =
    (points : Points) (file : List ℕ) (s : SurveyFields) (place next : Place) (places : List Place)
    (laid : List LaidPart) (first : FilePart) (parts : List FilePart)
    → survey_of file most_frames ≡ Ok s
    → piece_parts (cutting_of points) file s (place ∷ next ∷ places) ≡ Ok laid
    → ArePieceInputs laid file s first parts
    → JoinsTheFrames place (last_place next places) laid file s first parts

-- ---- in two steps

-- The file made by joining some inputs, followed by the other
-- inputs, is a list of inputs of a join that isn't refused.
pub record IsJoinedInSteps (first : FilePart) (parts others : List FilePart) : Type 0 where
  pub files : Contents
  pub names : List (List ℕ)
  pub joined : FilePart
  pub more : List FilePart
  pub are : map files names ≡ Some (seamless_file (first ∷ parts))
      ∷ map (λ (p : FilePart). Some p.file) others
  pub taken : join_parts files names ≡ Ok (joined ∷ more)

-- no frame of this stream is empty
abbrev pub HasNoEmptyFrame : ClassFields → List StreamFrame → Type 0
HasNoEmptyFrame class stream = full_frames class stream ≡ stream

-- The pieces of a split, in order, are joined in two steps as in one, where no frame of the file is
-- empty.
abbrev pub StepsJoinTheSame : Type 0
StepsJoinTheSame =
    (points : Points) (file : List ℕ) (s : SurveyFields) (place next : Place) (places : List Place)
    (laid : List LaidPart) (first : FilePart) (parts others : List FilePart)
    → survey_of file most_frames ≡ Ok s
    → piece_parts (cutting_of points) file s (place ∷ next ∷ places) ≡ Ok laid
    → ArePieceInputs laid file s first (parts ++ others)
    → HasNoEmptyFrame s.class (stream_of file) → (steps : IsJoinedInSteps first parts others)
    → seamless_file (steps.joined ∷ steps.more) ≡ seamless_file (first ∷ (parts ++ others))
