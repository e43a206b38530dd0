-- What a join without seams leaves out, and where it begins and ends, whatever the code.
use Rattle.std.specs.List.{concat}
use Rattle.std.specs.Prelude.{length, List, None, Ok, Option, option_map, slice_get, Some, suc}
use Rattle.std.specs.Prelude.{true, zero, ℕ, [], ◌++◌, ◌∷◌, ◌≡◌, ◌≤◌, ◌⊎◌}
use Rattle.cut_edits.specs.Exact.{survey_without_head}
use Rattle.exact_span.specs.declared.played.Played.{Played}
use Rattle.frame_header.specs.Fields.{ClassFields}
use Rattle.joined_inputs.specs.Parts.{join_parts}
use Rattle.laying.specs.Relaid.{FilePart, part_stream}
use Rattle.outside.specs.Files.{AreOctets, Contents}
use Rattle.seam_laws.specs.{PlayedParts.input_played, SeamlessLaws.{is_empty_frame, IsSamePosition}}
use Rattle.seam_plan.specs.{Seams.JointFrames, declared.seam.Seam.Seam}
use Rattle.seam_plan.specs.declared.seam.Seam.TheVariants.{Follows, LeadIn, Whole}
use Rattle.seamless_edits.specs.Seamless.{delay_of_splice, join_of_parts, last_part, seamless_file}
use Rattle.seamless_edits.specs.Seamless.{splice_parts}
use Rattle.sync_survey.specs.Faults.{stream_of, stream_of_survey, SurveyFields}
use Rattle.sync_survey.specs.{MainData.StreamFrame, Survey.survey_of}

-- ---- what is left out of an input

-- These frames are one frame, the first of the file's stream, and it
-- is empty: all bits of its side information are 0, and it has no main data.
pub record IsEmptyFront (class : ClassFields) (file : List ℕ) (frames : List StreamFrame) : Type 0
  where
    pub frame : StreamFrame
    pub one : frames ≡ frame ∷ []
    pub first : slice_get (stream_of file) 0 ≡ Some frame
    pub side : is_empty_frame class frame ≡ true
    pub main : concat frame.payload ≡ []

-- the seam of the input with this number; the first input has none
abbrev pub seam_at : List JointFrames → ℕ → Option Seam
seam_at joints zero = None
seam_at joints (suc number) = option_map (λ (j : JointFrames). j.seam) (slice_get joints number)

-- What may be left out of an input with this seam: of the first input no frame, or an empty first
-- frame; of a whole input no frame; of an input without its lead-in an empty first frame; and of an
-- input that follows the one before it the number of frames that the seam says.
abbrev pub MayBeLeftOut : Option Seam → ClassFields → List ℕ → List StreamFrame → Type 0
MayBeLeftOut None class file frames = (frames ≡ []) ⊎ IsEmptyFront class file frames
MayBeLeftOut (Some Whole) class file frames = frames ≡ []
MayBeLeftOut (Some LeadIn) class file frames = IsEmptyFront class file frames
MayBeLeftOut (Some (Follows count)) class file frames = length frames ≡ count

-- The frames of the input with this number are written, as they are in the
-- stream of the file whose head is set apart, but for those that may be left out.
pub record IsInputWritten (first : FilePart) (parts : List FilePart) (number : ℕ)
    (input : FilePart)
    : Type 0 where
  -- what is written of it
  pub part : FilePart
  pub is : slice_get (splice_parts first parts) number ≡ Some part
  -- the frames before that
  pub left_out : List StreamFrame
  pub all : stream_of_survey input.file (survey_without_head input.survey)
      ≡ left_out ++ part_stream part
  pub may : MayBeLeftOut (seam_at (join_of_parts first parts).joints number) input.survey.class
      input.file left_out

-- Of each input what a join without seams leaves out is at most one
-- frame, the first, and that frame is empty, unless the input follows
-- the one before it; and there is nothing else in the splice.
pub record LeavesOutEmpty (first : FilePart) (parts : List FilePart) : Type 0 where
  pub inputs : (number : ℕ) (input : FilePart) → slice_get (first ∷ parts) number ≡ Some input
      → IsInputWritten first parts number input
  pub many : length (splice_parts first parts) ≡ length (first ∷ parts)

-- this holds for each join that isn't refused
abbrev pub LeftOutIsEmpty : Type 0
LeftOutIsEmpty =
    (files : Contents) (inputs : List (List ℕ)) (first : FilePart) (parts : List FilePart)
    → join_parts files inputs ≡ Ok (first ∷ parts) → LeavesOutEmpty first parts

-- ---- where a join begins and ends

-- the positions of an input that are played
abbrev pub part_played : FilePart → Played
part_played p = input_played p.file p.survey

-- The first played position of the joined file is the first input's. Its played positions end where
-- the last input's do, if that position is in the joined file at all; and it is, unless the last
-- input's end is before its start.
pub record KeepsEnds (first : FilePart) (parts : List FilePart) (last : FilePart) (joined : Played)
    : Type 0 where
  pub start : IsSamePosition first parts 0 first (part_played first).start joined.start
  pub end : (place : ℕ)
      → IsSamePosition first parts (length parts) last (part_played last).end place
      → place ≡ joined.end
  pub there : (part_played last).start ≤ (part_played last).end
      → IsSamePosition first parts (length parts) last (part_played last).end joined.end

-- This holds for the file of each join that isn't refused, as the file is read, if numbers are
-- written and the last input is a file of bytes.
abbrev pub JoinsKeepTheirEnds : Type 0
JoinsKeepTheirEnds =
    (files : Contents) (inputs : List (List ℕ)) (first : FilePart) (parts : List FilePart)
    (delay allowed : ℕ) (s : SurveyFields) → join_parts files inputs ≡ Ok (first ∷ parts)
    → delay_of_splice first parts ≡ Some delay → AreOctets (last_part first parts).file
    → survey_of (seamless_file (first ∷ parts)) allowed ≡ Ok s
    → KeepsEnds first parts (last_part first parts) (input_played (seamless_file (first ∷ parts)) s)
