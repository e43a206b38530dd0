-- The frames of the span, given the known survey and head.
use Rattle.std.proofs.Common.{ap, inr, Option, sym, ◌∙◌}
use Rattle.cut_edits.specs.Exact.{file_span, span_piece}
use Rattle.info_header.specs.declared.fields.Info.{Info}
use Rattle.split_edits.proofs.CutLemmas.{exact-laid-is, exact-laid-refused, exact-points-refusal}
use Rattle.split_edits.proofs.PiecesLemmas.{match_err}
use Rattle.sync_survey.specs.Faults.{survey_view}
use Rattle.split_edits.proofs.exact_points.ExactPointsCut.select.Goals as goal

pub returns-in_err-span-clause-laid : goal.returns-in_err-span-clause-laid
returns-in_err-span-clause-laid c =
    let t = survey_view c.args.source.now.survey in
    let from = c.args.from.now in
    let to = c.args.to.now in
    match_err c.from_residual.result _ _ c.from_residual.ensures.1
    (inr (
      exact-points-refusal c.args.self.now _ c.in_err-span.ensures.refusal,
      λ file s is.
          exact-laid-refused from to file s is.survey is.head_is
          (ap (λ (h : Option Info). file_span from to h t) (sym c.as_ref-head.ensures.value)
          ∙ c.in_err-span.ensures.span),
    ))

pub returns-clause-laid : goal.returns-clause-laid
returns-clause-laid c = λ file s is.
    let t = survey_view c.args.source.now.survey in
    let from = c.args.from.now in
    let to = c.args.to.now in
    let span = c.in_ok-span.span in
    exact-laid-is from to file s is.survey is.head_is
    (ap (λ (h : Option Info). file_span from to h t) (sym c.as_ref-head.ensures.value)
    ∙ c.in_ok-span.ensures.span)
    (c.in_ok-selected.ensures.laid file (rw is.survey is.has)
    ∙ ap (λ (h : Option Info). span_piece h span file t) c.as_ref-head.ensures.value)
