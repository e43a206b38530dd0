-- What the planner returns is the plan.
use Rattle.std.proofs.{Common.arith, lemmas.Result.IfOk-weaker}
use Rattle.join_edits.proofs.PlanLemmas.{all-fit, needs-few, places-few, plan-is}
use Rattle.join_edits.proofs.planned.plan_all.Goals as goal

pub plan-requires-clause-planned : goal.plan-requires-clause-planned
plan-requires-clause-planned c =
    rw (c.needs.ensures, c.places.ensures, c.in_ok-parts.ensures) (all-fit c.requires).planned

pub plan-requires-clause-needs : goal.plan-requires-clause-needs
plan-requires-clause-needs c = grind (arith, needs-few)

pub plan-requires-clause-few : goal.plan-requires-clause-few
plan-requires-clause-few c = grind (arith, places-few)

pub returns : goal.returns
returns c = grind (arith, IfOk-weaker, plan-is)
