-- The frames are one part of the survey's frames.
use Rattle.std.{proofs.Common.{ap, List, subst, sym, [], ◌∙◌, ◌∷◌}, specs.Prelude.slice_range}
use Rattle.laying.specs.Needs.{plan_input, PlanInput}
use Rattle.slot_plan.specs.Parts.{CanBePlanned}
use Rattle.sync_survey.specs.{Faults.survey_view, Row.Row}
use Rattle.laying_tests.proofs.tests.needs.plan_between.Goals as goal

pub plan-requires-clause-planned : goal.plan-requires-clause-planned
plan-requires-clause-planned g c =
    let s = survey_view c.args.survey.now in
    let fit = c.one_part_fits.ensures s
    c.args.from c.args.to c.requires.laid.placed c.requires.some c.requires.within in
    rw (c.needs.ensures, c.places.ensures) (subst (λ (a : PlanInput). CanBePlanned a.needs a.places)
    (sym (c.in_ok-push.ensures.added [] c.new-parts.ensures.parts ∙ ap (λ (l : List Row).
    plan_input (slice_range l c.args.from c.args.to ∷ [])) c.frames-frames.ensures)) fit.planned)
