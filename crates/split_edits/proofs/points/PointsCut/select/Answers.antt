-- The chosen frames in their own slots, given the known survey.
use Rattle.std.proofs.Common.{inr}
use Rattle.split_edits.proofs.CutLemmas.{frames-laid, frames-refused, points-refusal}
use Rattle.split_edits.proofs.PiecesLemmas.{match_err}
use Rattle.split_edits.proofs.points.PointsCut.select.Goals as goal

pub returns-in_err-chosen-clause-laid : goal.returns-in_err-chosen-clause-laid
returns-in_err-chosen-clause-laid c =
    match_err c.from_residual.result _ _ c.from_residual.ensures.1
    (inr (
      points-refusal c.args.self.now _ c.in_err-chosen.ensures.refusal,
      λ file s is. frames-refused c.args.from.now c.args.to.now file
          is.survey (c.in_err-chosen.ensures.chosen file),
    ))

pub returns-clause-laid : goal.returns-clause-laid
returns-clause-laid c = λ file s is.
    frames-laid c.args.from.now c.args.to.now file
    is.survey
    (c.in_ok-chosen.ensures.chosen file) c.in_ok-selected.ensures.laid
