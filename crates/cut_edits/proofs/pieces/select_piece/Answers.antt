-- The frames of the span have their plan, with at most one place more than frames.
use Rattle.std.proofs.Common.{ap, arith, length, List, None, Option, refl, subst, sym, ◌≡◌}
use Rattle.cut_edits.proofs.PieceLemmas.{span_chosen}
use Rattle.cut_edits.proofs.SpanLemmas.{with-few, with-fitting, with-leads, with-many}
use Rattle.cut_edits.specs.Chosen.{chosen_needs}
use Rattle.cut_edits.specs.Exact.{quality_of, span_extension, span_needs, span_part, span_piece}
use Rattle.cut_edits.specs.Exact.{span_plan}
use Rattle.exact_span.specs.declared.span.Span.{Span}
use Rattle.frame_header.specs.{Fields.ClassFields, Tables.window_of}
use Rattle.info_header.specs.declared.fields.Info.{Info}
use Rattle.laying.specs.{Fits.IsFittingPlan, Laid.laid_part, declared.info.Kept.Kept}
use Rattle.slot_plan.specs.declared.needs.Placed.{Placed}
use Rattle.sync_survey.specs.Faults.{survey_view, SurveyFields}
use Rattle.cut_edits.proofs.pieces.select_piece.Goals as goal

pub plan_piece-requires : goal.plan_piece-requires
plan_piece-requires c = grind arith

pub kept_of-kept-requires-clause-span : goal.kept_of-kept-requires-clause-span
kept_of-kept-requires-clause-span c = rw (c.class.ensures) c.requires.there.is

pub kept_of-kept-requires-clause-leads : goal.kept_of-kept-requires-clause-leads
kept_of-kept-requires-clause-leads c =
    let s = survey_view c.args.survey.now in
    let chosen = span_chosen None c.args.span.now in
    rw (c.placed.ensures, c.in_ok-plan.ensures)
    (with-leads chosen s
    c.requires.laid.placed c.requires.there.some c.requires.there.within refl refl)

pub kept_of-kept-requires-clause-many : goal.kept_of-kept-requires-clause-many
kept_of-kept-requires-clause-many c =
    let s = survey_view c.args.survey.now in
    let chosen = span_chosen None c.args.span.now in
    rw (c.placed.ensures, c.in_ok-plan.ensures)
    (with-many chosen s
    c.requires.laid.placed c.requires.there.some c.requires.there.within c.args.span.now.led)

pub select_sealed-requires-clause-few : goal.select_sealed-requires-clause-few
select_sealed-requires-clause-few c =
    let s = survey_view c.args.survey.now in
    let chosen = span_chosen None c.args.span.now in
    omega (
      arith,
      ap length c.in_ok-plan.ensures,
      with-few chosen s
          c.requires.laid.placed c.requires.there.some c.requires.there.within c.args.span.now.led,
      c.requires.there.within,
      c.requires.few,
    )

pub select_sealed-requires-clause-fitting : goal.select_sealed-requires-clause-fitting
select_sealed-requires-clause-fitting c =
    let s = survey_view c.args.survey.now in
    let chosen = span_chosen None c.args.span.now in
    subst (IsFittingPlan (window_of s.class.version) (chosen_needs chosen s))
    (sym c.in_ok-plan.ensures)
    (with-fitting chosen s
    c.requires.laid.placed c.requires.there.some c.requires.there.within c.args.span.now.led)

same_laid : (head : Option Info) (span : Span) (s : SurveyFields) (kept : Kept)
    (placed given : List Placed) (class : ClassFields)
    → kept ≡ record { quality = quality_of head; extension = span_extension head class span given }
    → class ≡ s.class → given ≡ placed → placed ≡ span_plan span.led s.class (span_needs span s)
    → laid_part span.first span.last kept placed ≡ span_part head span s
same_laid head span s kept placed given class is same own planned = grind arith

pub returns-clause-laid : goal.returns-clause-laid
unfolding span_piece
returns-clause-laid c = grind (arith, same_laid)
