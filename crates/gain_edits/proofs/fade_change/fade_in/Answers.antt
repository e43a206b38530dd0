-- The curve, and then the change along it.
use Rattle.std.proofs.lemmas.Result.{err_from_is_err_and}
use Rattle.gain_edits.proofs.FadeLemmas.{along_answer, curve_fault}
use Rattle.sync_survey.specs.Faults.{survey_view}
use Rattle.gain_edits.proofs.fade_change.fade_in.Goals as goal

pub returns-in_err-curve : goal.returns-in_err-curve
returns-in_err-curve c =
    let p = err_from_is_err_and c.from_residual.result c.from_residual.ensures.1 in
    rw (p.1, p.2)
    (curve_fault c.args.sheet.now c.args.back (survey_view c.args.survey.now)
    c.in_err-curve.ensures)

pub returns : goal.returns
returns c = along_answer c.args.sheet.now c.args.back (survey_view c.args.survey.now)
    c.in_ok-curve.ensures c.change_along.result c.change_along.ensures
