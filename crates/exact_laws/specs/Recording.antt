-- The samples that the pieces of `split_exact` play, in order.
use Rattle.std.specs.List.{range_with_len}
use Rattle.std.specs.Prelude.{flat_map, List, map, Ok, Some, ℕ, [], ◌*◌, ◌+◌, ◌-◌, ◌∷◌, ◌≡◌}
use Rattle.commands.specs.SingleOutput.{most_frames}
use Rattle.cut_edits.specs.Exact.{file_span, span_lead_ins, span_piece, survey_without_head}
use Rattle.exact_laws.specs.SampleLaws.{PlaysItsSamples}
use Rattle.exact_span.specs.Laws.{last_point, samples_between}
use Rattle.exact_span.specs.PlayedPositions.{length_of_played, played_of, samples_in}
use Rattle.exact_span.specs.declared.{exact_place.ExactPlace.ExactPlace, played.Played.Played}
use Rattle.exact_span.specs.declared.span.Span.{Span}
use Rattle.frame_header.specs.Fields.{ClassFields}
use Rattle.laying.specs.{KeptFields.fields_of_head, Laid.{info_laid, LaidPart}}
use Rattle.seam_laws.specs.PlayedParts.{input_played, piece_lead_ins, sample_named}
use Rattle.split_edits.specs.{Cutting.piece_parts, Split.exact_cutting_of}
use Rattle.split_edits.specs.declared.exact_points.ExactPoints.{ExactPoints}
use Rattle.sync_survey.specs.{Faults.SurveyFields, Survey.survey_of}

-- ---- the samples of a piece

-- the positions of a piece that are played, given its Info frame and the number of its frames
abbrev pub piece_played : List ℕ → SurveyFields → LaidPart → Played
piece_played file s laid =
    played_of (Some (info_laid laid file s)) s.class (piece_lead_ins laid + (laid.to - laid.from))

-- The sample of the input, whose first played position is `start`, that is at the same offset of
-- the same frame as position x of a piece.
abbrev pub piece_sample : ClassFields → ℕ → LaidPart → ℕ → ℕ
piece_sample class start laid x =
    x + laid.from * samples_in class - (piece_lead_ins laid * samples_in class + start)

-- the samples of the input that a piece plays, in order
unfoldable pub piece_samples : List ℕ → SurveyFields → LaidPart → List ℕ
piece_samples file s laid =
    let played = piece_played file (survey_without_head s) laid in
    map (piece_sample s.class (input_played file s).start laid)
    (range_with_len played.start (length_of_played played))

-- the samples of the input that all pieces play, in order
abbrev pub all_piece_samples : List ℕ → SurveyFields → List LaidPart → List ℕ
all_piece_samples file s laid = flat_map (piece_samples file s) laid

-- ---- the law

-- What is laid is the piece of the span from one place to another. It plays the samples from the
-- one to before the other, each at its place in its frame.
pub record PlaysBetween (file : List ℕ) (s : SurveyFields) (from to : ExactPlace) (laid : LaidPart)
    : Type 0 where
  pub span : Span
  pub found : file_span from to (fields_of_head file s.head) s ≡ Ok span
  pub is : laid ≡ span_piece (fields_of_head file s.head) span file (survey_without_head s)
  pub plays : PlaysItsSamples (fields_of_head file s.head) s (sample_named file s from)
      (sample_named file s to) span (span_lead_ins span laid.placed)
      (info_laid laid file (survey_without_head s))
  pub samples : piece_samples file s laid
      ≡ samples_between (sample_named file s from) (sample_named file s to)

-- each of these plays its samples, from a place to the first of others, and from each of them to
-- the next
abbrev pub PlayInTurn : List ℕ → SurveyFields → ExactPlace → List ExactPlace → List LaidPart
    → Type 0
PlayInTurn file s from [] [] = Unit {0}
PlayInTurn file s from (to ∷ places) (laid ∷ more) =
    PlaysBetween file s from to laid × PlayInTurn file s to places more
PlayInTurn file s from _ _ = ⊥

-- the pieces from a place on, one by one and together: each sample from the first place to the last
-- is played once, in order
pub record PlayTheRecording (file : List ℕ) (s : SurveyFields) (place : ExactPlace)
    (places : List ExactPlace) (laid : List LaidPart)
    : Type 0 where
  pub each : PlayInTurn file s place places laid
  pub all : all_piece_samples file s laid
      ≡ samples_between (sample_named file s place)
      (last_point (sample_named file s place) (map (sample_named file s) places))

-- this holds for the pieces of every split at places of samples that isn't refused
abbrev pub PiecesAreTheRecording : Type 0
PiecesAreTheRecording =
    (points : ExactPoints) (file : List ℕ) (s : SurveyFields) (place : ExactPlace)
    (places : List ExactPlace) (laid : List LaidPart)
    → survey_of file most_frames ≡ Ok s
    → piece_parts (exact_cutting_of points) file s (place ∷ places) ≡ Ok laid
    → PlayTheRecording file s place places laid
