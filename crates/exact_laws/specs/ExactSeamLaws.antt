-- The pieces of an exact split that are joined again, in order.
use Rattle.std.specs.List.{list_all}
use Rattle.std.specs.Prelude.{length, List, Ok, slice_get, slice_range, Some, true, ℕ, [], ◌++◌}
use Rattle.std.specs.Prelude.{◌+◌, ◌-◌, ◌∷◌, ◌≡◌, ◌≤◌}
use Rattle.commands.specs.SingleOutput.{most_frames}
use Rattle.cut_edits.specs.Exact.{exact_part, file_span, survey_without_head}
use Rattle.exact_laws.specs.SpanLaws.{is_following_seam}
use Rattle.exact_span.specs.{Laws.{IsPieceHead, KeepsPlaces}, PlayedPositions.played_of}
use Rattle.exact_span.specs.declared.{exact_place.ExactPlace.ExactPlace, span.Span.Span}
use Rattle.laying.specs.{KeptFields.fields_of_head, Laid.LaidPart, Relaid.FilePart}
use Rattle.seam_laws.specs.PlayedParts.{input_played, sample_named}
use Rattle.seam_laws.specs.SeamlessLaws.{ArePieceInputs, bare_file, has_no_look_alike}
use Rattle.seam_laws.specs.SeamlessLaws.{HasNoEmptyFrame, is_empty_frame, IsJoinedInSteps}
use Rattle.seam_laws.specs.SeamlessLaws.{last_place}
use Rattle.seam_plan.specs.Seams.{JointFrames}
use Rattle.seamless_edits.specs.Seamless.{delay_of_splice, join_of_parts, seamless_file}
use Rattle.seamless_edits.specs.Seamless.{seamless_info, seamless_padding, seamless_stream}
use Rattle.split_edits.specs.{Cutting.piece_parts, Split.exact_cutting_of}
use Rattle.split_edits.specs.declared.exact_points.ExactPoints.{ExactPoints}
use Rattle.sync_survey.specs.{Faults.{stream_of_survey, SurveyFields}, MainData.StreamFrame}
use Rattle.sync_survey.specs.{Row.Row, Survey.survey_of}

-- What `cut --exact` needs from the first place to the last is the frames of this span. Each piece
-- but the first follows the one before it. The stream of the join is at most one empty frame and
-- then the recording's frames of the span: as they are in the stream of the file whose head is set
-- apart, each once.
pub record HasTheSpan (from to : ExactPlace) (file : List ℕ) (s : SurveyFields) (first : FilePart)
    (parts : List FilePart) : Type 0 where
  -- the span of the samples from the first place to before the last
  pub span : Span
  -- it is the span that `cut --exact` finds
  pub found : file_span from to (fields_of_head file s.head) s ≡ Ok span
  -- each later piece follows the one before it
  pub follow : list_all (λ (j : JointFrames). is_following_seam j.seam)
      (join_of_parts first parts).joints ≡ true
  -- the frames before the frames of the span
  pub leads : List StreamFrame
  -- no more than one
  pub one : length leads ≤ 1
  -- which is empty
  pub empty : list_all (is_empty_frame s.class) leads ≡ true
  -- the stream is these and then the frames of the span
  pub stream : seamless_stream (first ∷ parts)
      ≡ leads ++ slice_range (stream_of_survey file (survey_without_head s)) span.first span.last

-- Numbers are written. By the Info frame the join plays the samples from the first place to before
-- the last, and no others: the Info frame has the number of frames and the delay and the padding of
-- the span, both in range; and sample k of the join is at the offset in its frame at which sample
-- a + k of the recording, where the first place is sample a, is in the same frame.
pub record PlaysTheSpan (from to : ExactPlace) (file : List ℕ) (s : SurveyFields) (first : FilePart)
    (parts : List FilePart) (leads : ℕ) (span : Span) : Type 0 where
  -- the row of the first frame of the splice, from whose header the Info frame is made
  pub row : Row
  -- it is in the first input, after what leaves the splice
  pub row_is : slice_get first.survey.frames (join_of_parts first parts).front ≡ Some row
  -- the delay
  pub delay : ℕ
  -- the delay and the padding are written
  pub delay_is : delay_of_splice first parts ≡ Some delay
  -- both are in range
  pub delay_most : delay ≤ 2830
  pub padding_least : 529 ≤ seamless_padding first parts
  pub padding_most : seamless_padding first parts ≤ 1680
  -- what the Info frame contains
  pub head : IsPieceHead s.class leads span (seamless_info (Some delay) row first parts)
  -- what is played by it
  pub plays : KeepsPlaces s.class leads span.first (sample_named file s from)
      (sample_named file s to)
      (played_of (Some (seamless_info (Some delay) row first parts)) s.class
      (leads + (span.last - span.first))) (input_played file s)
  -- what is played by the head of the file as it is read
  pub reads : (allowed : ℕ) (j : SurveyFields)
      → survey_of (seamless_file (first ∷ parts)) allowed ≡ Ok j
      → KeepsPlaces s.class leads span.first (sample_named file s from) (sample_named file s to)
      (input_played (seamless_file (first ∷ parts)) j) (input_played file s)

-- Where the first piece doesn't begin with a look-alike, the join is the file that `cut --exact`
-- writes from the first place to the last, without the blocks after the frames.
pub record IsTheCut (from to : ExactPlace) (laid : List LaidPart) (file : List ℕ) (s : SurveyFields)
    (first : FilePart) (parts : List FilePart) : Type 0 where
  -- what `cut --exact` lays
  pub whole : LaidPart
  -- it isn't refused
  pub is : exact_part from to file s ≡ Ok whole
  -- the join is its file
  pub same : has_no_look_alike laid (first ∷ []) ≡ true
      → seamless_file (first ∷ parts) ≡ bare_file whole file (survey_without_head s)

-- The join of exact pieces has the frames of the recording that are
-- needed, each once, plays exactly the recording's samples from the
-- first place to the last, and is what is cut from the one to the other.
pub record JoinsTheSamples (from to : ExactPlace) (laid : List LaidPart) (file : List ℕ)
    (s : SurveyFields) (first : FilePart) (parts : List FilePart) : Type 0 where
  -- the frames of the span, each once
  pub frames : HasTheSpan from to file s first parts
  -- its samples, each once
  pub samples : PlaysTheSpan from to file s first parts (length frames.leads) frames.span
  -- it is the file of the cut
  pub cut : IsTheCut from to laid file s first parts

-- this holds for the pieces of any exact split, where they are the inputs of a join, in order
abbrev pub ExactSplitThenSeamlessJoin : Type 0
ExactSplitThenSeamlessJoin =
    (points : ExactPoints) (file : List ℕ) (s : SurveyFields) (place next : ExactPlace)
    (places : List ExactPlace) (laid : List LaidPart) (first : FilePart) (parts : List FilePart)
    → survey_of file most_frames ≡ Ok s
    → piece_parts (exact_cutting_of points) file s (place ∷ next ∷ places) ≡ Ok laid
    → ArePieceInputs laid file (survey_without_head s) first parts
    → JoinsTheSamples place (last_place next places) laid file s first parts

-- The pieces of an exact split, in order, are joined in two steps as in one, where no frame of the
-- file, when its head is set apart, is empty.
abbrev pub ExactInSteps : Type 0
ExactInSteps =
    (points : ExactPoints) (file : List ℕ) (s : SurveyFields) (place next : ExactPlace)
    (places : List ExactPlace) (laid : List LaidPart) (first : FilePart)
    (parts others : List FilePart) → survey_of file most_frames ≡ Ok s
    → piece_parts (exact_cutting_of points) file s (place ∷ next ∷ places) ≡ Ok laid
    → ArePieceInputs laid file (survey_without_head s) first (parts ++ others)
    → HasNoEmptyFrame s.class (stream_of_survey file (survey_without_head s))
    → (steps : IsJoinedInSteps first parts others)
    → seamless_file (steps.joined ∷ steps.more) ≡ seamless_file (first ∷ (parts ++ others))
