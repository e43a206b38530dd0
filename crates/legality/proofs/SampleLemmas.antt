-- Samples between two places: a span of frames is found exactly
-- where there is one, and all of its samples are played.
use Rattle.std.proofs.Common.{ap, ap₂, Bool, cond, length, List, None, Ok, Option, refl, Some, ℕ}
use Rattle.std.proofs.{Common.{◌&&◌, ◌+◌, ◌<◌, ◌≡◌, ◌≤◌}, lemmas.Bool.{le-leb, lt-ltb}}
use Rattle.command_table.specs.Choices.{IsSampleRange}
use Rattle.commands.{proofs.RefusingLemmas.refusal_or-ok, specs.Refusing.refusal_or}
use Rattle.commands.specs.declared.fault.Refusal.TheVariants.{Span as NoSpan}
use Rattle.cut_edits.{proofs.PieceLemmas.samples_there, specs.Exact.{file_span, samples_fault}}
use Rattle.exact_span.specs.{Places.sample_at, PlayedPositions.{length_of_played, played_of}}
use Rattle.exact_span.specs.{Spans.span_of, declared.exact_place.ExactPlace.ExactPlace}
use Rattle.exact_span.specs.declared.{played.Played.Played, span.Span.Span}
use Rattle.info_header.specs.declared.fields.Info.{Info}
use Rattle.laying.specs.KeptFields.{fields_of_head}
use Rattle.sync_survey.specs.Faults.{SurveyFields}

samples_none : {a b samples : ℕ} → a < b → b ≤ samples → samples_fault a b samples ≡ None
samples_none {a} {b} {samples} some most = ap₂ (λ (m n : Bool). cond (m && n) None
    (Some (NoSpan a b samples))) (lt-ltb a b some) (le-leb b samples most)

module _ (from to : ExactPlace) (file : List ℕ) (s : SurveyFields) where
  abbrev head : Option Info
  head = fields_of_head file s.head

  abbrev played : Played
  played = played_of head s.class (length s.frames)

  abbrev number : ExactPlace → ℕ
  number place = sample_at s.class (length_of_played played) place

  abbrev the_span : Span
  the_span = span_of s.class (played.start + number from) (played.start + number to)

  -- a span that isn't refused is a range of samples
  pub span-range : (span : Span) → file_span from to head s ≡ Ok span
      → IsSampleRange from to (record { bytes = file; survey = s })
  unfolding file_span
  span-range span e =
      let fault = samples_fault (number from) (number to) (length_of_played played) in
      samples_there refl
      (refusal_or-ok e).0

  -- a range of samples isn't refused
  pub range-span : IsSampleRange from to (record { bytes = file; survey = s })
      → (span : Span) × (file_span from to head s ≡ Ok span)
  unfolding file_span
  range-span are = (
    the_span,
    ap (λ o. refusal_or o the_span)
        (samples_none are.0 are.1),
  )
