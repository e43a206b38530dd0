-- What holds of exact pieces, whatever the code.
use Rattle.std.specs.Prelude.{length, List, Ok, Option, Some, ℕ, ◌+◌, ◌-◌, ◌≡◌}
use Rattle.cut_edits.specs.Exact.{file_span, span_lead_ins, span_piece, survey_without_head}
use Rattle.exact_span.specs.{Laws.{IsPieceHead, KeepsPlaces}, Places.sample_at}
use Rattle.exact_span.specs.{PlayedPositions.{length_of_played, played_of}, Spans.AreLeads}
use Rattle.exact_span.specs.declared.{exact_place.ExactPlace.ExactPlace, span.Span.Span}
use Rattle.info_header.specs.declared.fields.Info.{Info}
use Rattle.laying.specs.{KeptFields.fields_of_head, Laid.info_laid, Surveys.CanBeRelaid}
use Rattle.sync_survey.specs.Faults.{SurveyFields}

-- With `many` lead-ins the frames of the span, after a head with these fields, play as many samples
-- as there are from a to before b in the file with this head: the head gives the number of frames,
-- and the delay and the padding of the span; and sample k of them is at the same offset of the same
-- frame as sample a + k of the file.
pub record PlaysItsSamples (input : Option Info) (s : SurveyFields) (a b : ℕ) (span : Span)
    (many : ℕ) (fields : Info) : Type 0 where
  pub leads : AreLeads span many
  pub head : IsPieceHead s.class many span fields
  pub places : KeepsPlaces s.class many span.first a b (played_of (Some fields)
      s.class (many + (span.last - span.first))) (played_of input s.class (length s.frames))

-- the Info frame of every exact piece plays its samples
abbrev pub PiecesPlayTheirSamples : Type 0
PiecesPlayTheirSamples =
    (file : List ℕ) (s : SurveyFields) (from to : ExactPlace) (span : Span) →
    let head = fields_of_head file s.head in
    let samples = length_of_played (played_of head s.class (length s.frames)) in
    let piece = span_piece head span file (survey_without_head s) in
    CanBeRelaid file s → file_span from to head s ≡ Ok span
    → PlaysItsSamples head s (sample_at s.class samples from) (sample_at s.class samples to) span
    (span_lead_ins span piece.placed) (info_laid piece file (survey_without_head s))
