-- The played positions are within a file that isn't too long, and the frames of the span are there.
use Rattle.std.proofs.Common.{ap, arith, Err, length, Ok, Option, Result, ℕ, ◌≡◌}
use Rattle.std.proofs.lemmas.Result.{MatchResult-weaker}
use Rattle.std.specs.Prelude.{IfOk, MatchResult, option_copied}
use Rattle.commands.specs.declared.fault.EditFault.{EditFault}
use Rattle.cut_edits.proofs.PieceLemmas.{played-most, span-there}
use Rattle.cut_edits.specs.Exact.{file_span, IsSpanIn, span_between}
use Rattle.exact_span.specs.{PlayedPositions.played_of, declared.exact_place.ExactPlace.ExactPlace}
use Rattle.exact_span.specs.declared.{played.Played.Played, span.Span.Span}
use Rattle.frame_header.specs.Fields.{ClassFields}
use Rattle.info_header.specs.declared.fields.Info.{Info}
use Rattle.sync_survey.specs.Faults.{survey_view, SurveyFields}
use Rattle.cut_edits.proofs.spans.find_span.Goals as goal

abbrev IsFound : ExactPlace → ExactPlace → Option Info → SurveyFields → Result Span EditFault
    → Type 0
IsFound from to head s r = MatchResult r (λ span. file_span from to head s ≡ Ok span)
    (λ fault. file_span from to head s ≡ Err fault)

found : (from to : ExactPlace) (head : Option Info) (s : SurveyFields) (class : ClassFields)
    (played : Played) (n : ℕ) (r : Result Span EditFault) → class ≡ s.class → n ≡ length s.frames
    → played ≡ played_of head class n → MatchResult r (λ span. span_between class played from to
    ≡ Ok span) (λ fault. span_between class played from to ≡ Err fault) → IsFound from to head s r
unfolding file_span
found from to head s class played n r same count is clause = grind (arith, MatchResult-weaker)

there : (from to : ExactPlace) (head : Option Info) (s : SurveyFields) (r : Result Span EditFault)
    → IsFound from to head s r → IfOk r (IsSpanIn s)
there from to head s (Ok span) is = span-there from to head is
there from to head s (Err fault) is = tt

pub span_between-requires-clause-most : goal.span_between-requires-clause-most
span_between-requires-clause-most c = grind (arith, played-most)

pub returns-clause-span : goal.returns-clause-span
returns-clause-span c = search (arith, found)

pub returns-clause-there : goal.returns-clause-there
returns-clause-there c =
    there c.args.from.now c.args.to.now (option_copied c.args.head)
    (survey_view c.args.survey.now) c.span_between.result
    (found c.args.from.now c.args.to.now (option_copied c.args.head) (survey_view c.args.survey.now)
    c.class-class.result c.of-played.result _ c.span_between.result c.class-class.ensures
    (omega (arith, ap length c.frames.ensures, c.requires.few)) c.of-played.ensures
    c.span_between.ensures.span)
