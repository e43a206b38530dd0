-- The plans by which exact pieces are laid, and what is played of them as they are read.
use Rattle.std.specs.List.{range_with_len}
use Rattle.std.specs.Prelude.{flat_map, List, map, Ok, zip, ℕ, [], ◌+◌, ◌<◌, ◌∷◌, ◌≡◌, ◌≤◌}
use Rattle.commands.specs.SingleOutput.{most_frames}
use Rattle.cut_edits.specs.Exact.{exact_part, survey_without_head}
use Rattle.exact_laws.specs.Recording.{piece_sample}
use Rattle.exact_span.specs.Laws.{KeepsPlaces, last_point, samples_between}
use Rattle.exact_span.specs.PlayedPositions.{length_of_played}
use Rattle.exact_span.specs.declared.exact_place.ExactPlace.{ExactPlace}
use Rattle.frame_header.specs.Tables.{window_of}
use Rattle.laying.specs.{Laid.{file_laid, LaidPart, needs_laid}, NeedsFit.own_choice}
use Rattle.seam_laws.specs.PlayedParts.{input_played, piece_lead_ins, sample_named}
use Rattle.slot_plan.specs.{Plans.{IsLedPlan, IsPlan}, declared.needs.{Need.Need, Placed.Placed}}
use Rattle.split_edits.specs.{Cutting.piece_parts, Split.exact_cutting_of}
use Rattle.split_edits.specs.declared.exact_points.ExactPoints.{ExactPoints}
use Rattle.sync_survey.specs.{Faults.SurveyFields, Survey.survey_of}

-- ---- pieces in order

-- this holds of each piece: of the first from a place to the first of others, and of each later
-- piece from one of these to the next
abbrev pub HoldsInTurn : (ExactPlace → ExactPlace → LaidPart → Type 0) → ExactPlace
    → List ExactPlace → List LaidPart → Type 0
HoldsInTurn Holds from [] [] = Unit {0}
HoldsInTurn Holds from (to ∷ places) (laid ∷ more) =
    Holds from to laid × HoldsInTurn Holds to places more
HoldsInTurn Holds from _ _ = ⊥

-- ---- plans

-- the first position that is wanted from this place on, counted from the beginning of the first
-- frame of the file
abbrev pub first_position : List ℕ → SurveyFields → ExactPlace → ℕ
first_position file s from = (input_played file s).start + sample_named file s from

-- The plan of frames in their own slots, if this is the first position that is wanted of them:
-- the first of all lists of slots, in the order of areas, into which the main data can be laid.
-- If the position is within the delay of a decoder, 529 samples (528 and 1), only lists with one
-- lead-in in front count; otherwise a list with a lead-in counts only if there is none without.
pub record IsPlanFrom (position window : ℕ) (needs : List Need) (placed : List Placed)
    : Type 0 where
  pub early : position < 529 → IsLedPlan window own_choice needs placed
  pub late : 529 ≤ position → IsPlan window own_choice (needs ∷ []) placed

-- it is the plan of the frames of a piece that begins at this place
abbrev pub IsExactPlan : List ℕ → SurveyFields → ExactPlace → ExactPlace → LaidPart → Type 0
IsExactPlan file s from to laid =
    IsPlanFrom (first_position file s from) (window_of s.class.version)
    (needs_laid laid (survey_without_head s)) laid.placed

-- The plan of what `cut --exact` lays, and of each piece of `split --exact`, is the first of all
-- lists, with a lead-in only where a decoder needs one or the main data have no room without.
pub record ExactPlansAreFirst : Type 0 where
  pub cut : (from to : ExactPlace) (file : List ℕ) (s : SurveyFields) (laid : LaidPart)
      → survey_of file most_frames ≡ Ok s → exact_part from to file s ≡ Ok laid
      → IsExactPlan file s from to laid
  pub split : (points : ExactPoints) (file : List ℕ) (s : SurveyFields) (place : ExactPlace)
      (places : List ExactPlace) (laid : List LaidPart)
      → survey_of file most_frames ≡ Ok s
      → piece_parts (exact_cutting_of points) file s (place ∷ places) ≡ Ok laid
      → HoldsInTurn (IsExactPlan file s) place places laid

-- ---- as they are read

-- the file of a piece
abbrev pub piece_file : List ℕ → SurveyFields → LaidPart → List ℕ
piece_file file s laid = file_laid laid file (survey_without_head s)

-- What is played by the head of the piece, by every survey of its file, is the samples from the one
-- place to before the other, each at its offset in its frame.
abbrev pub PlaysAsRead : List ℕ → SurveyFields → ExactPlace → ExactPlace → LaidPart → Type 0
PlaysAsRead file s from to laid =
    (allowed : ℕ) (j : SurveyFields) → survey_of (piece_file file s laid) allowed ≡ Ok j
    → KeepsPlaces s.class (piece_lead_ins laid) laid.from (sample_named file s from)
    (sample_named file s to) (input_played (piece_file file s laid) j) (input_played file s)

-- the samples of the input that are played of a piece whose file has this survey, in order
abbrev pub read_samples : List ℕ → SurveyFields → LaidPart → SurveyFields → List ℕ
read_samples file s laid j =
    let played = input_played (piece_file file s laid) j in
    map (piece_sample s.class (input_played file s).start laid)
    (range_with_len played.start (length_of_played played))

-- the samples of the input that are played of all pieces, in order
abbrev pub all_read_samples : List ℕ → SurveyFields → List LaidPart → List SurveyFields → List ℕ
all_read_samples file s laid surveys =
    flat_map (λ (p : LaidPart × SurveyFields). read_samples file s p.0 p.1) (zip laid surveys)

-- each of these files has the survey with the same number
abbrev pub AreSurveysOf : List (List ℕ) → List SurveyFields → Type 0
AreSurveysOf [] [] = Unit {0}
AreSurveysOf (file ∷ files) (j ∷ surveys) =
    ((allowed : ℕ) × (survey_of file allowed ≡ Ok j)) × AreSurveysOf files surveys
AreSurveysOf _ _ = ⊥

-- The pieces from a place on play as they are read: each the samples from its place to the next,
-- and all together each sample from the first place to the last once, in order.
pub record PlayTheRecordingAsRead (file : List ℕ) (s : SurveyFields) (place : ExactPlace)
    (places : List ExactPlace) (laid : List LaidPart) : Type 0 where
  pub each : HoldsInTurn (PlaysAsRead file s) place places laid
  pub all : (surveys : List SurveyFields) → AreSurveysOf (map (piece_file file s) laid) surveys
      → all_read_samples file s laid surveys
      ≡ samples_between (sample_named file s place)
      (last_point (sample_named file s place) (map (sample_named file s) places))

-- what `cut --exact` and `split --exact` write plays its samples as it is read
pub record ExactPiecesPlayAsRead : Type 0 where
  pub cut : (from to : ExactPlace) (file : List ℕ) (s : SurveyFields) (laid : LaidPart)
      → survey_of file most_frames ≡ Ok s → exact_part from to file s ≡ Ok laid
      → PlaysAsRead file s from to laid
  pub split : (points : ExactPoints) (file : List ℕ) (s : SurveyFields) (place : ExactPlace)
      (places : List ExactPlace) (laid : List LaidPart)
      → survey_of file most_frames ≡ Ok s
      → piece_parts (exact_cutting_of points) file s (place ∷ places) ≡ Ok laid
      → PlayTheRecordingAsRead file s place places laid
