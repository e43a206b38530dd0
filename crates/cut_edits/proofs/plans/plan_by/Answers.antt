-- What the planner returns for the chosen frames is their plan.
use Rattle.std.proofs.lemmas.Result.{IfOk-weaker}
use Rattle.cut_edits.{proofs.ChosenLemmas.{plan_is, rows-fit}, specs.Chosen.chosen_in}
use Rattle.sync_survey.specs.Faults.{survey_view}
use Rattle.cut_edits.proofs.plans.plan_by.Goals as goal

pub plan-requires-clause-planned : goal.plan-requires-clause-planned
plan-requires-clause-planned g c =
    rw (c.needs.ensures, c.places.ensures, c.in_ok-parts.ensures.parts)
    (rows-fit (chosen_in c.args.chosen.now) (survey_view c.args.survey.now)
    c.requires.there.laid.placed c.requires.there.some c.requires.there.within).planned

pub returns : goal.returns
returns g c =
    let there = c.requires.there in
    IfOk-weaker c.plan.result _ _
    (λ plan is. plan_is (chosen_in c.args.chosen.now) (survey_view c.args.survey.now)
    there.laid.placed there.some there.within c.requires.policy is.plan)
    (rw (c.needs.ensures, c.places.ensures, c.in_ok-parts.ensures.parts) at c.plan.ensures)
