-- A gain that would leave the range is refused.
use Rattle.std.proofs.Common.{rules, sym, ◌∙◌, ◌≡◌}
use Rattle.commands.specs.declared.fault.EditFault.TheVariants.{Refused}
use Rattle.gain_edits.proofs.FadeLemmas.{along_refused}
use Rattle.moved_gains.specs.Course.{steps_at_offset}
use Rattle.sync_survey.specs.Faults.{survey_view}
use Rattle.gain_edits.proofs.fade_change.change_along.Goals as goal

pub returns-in-Some : goal.returns-in-Some
returns-in-Some c =
    let s = survey_view c.args.survey.now in
    let is : c.into.result ≡ Refused c.in-Some.refusal = search rules in
    along_refused (steps_at_offset c.args.course s.frames) s
    (sym c.range_fault.ensures ∙ c.in-Some.is) is
