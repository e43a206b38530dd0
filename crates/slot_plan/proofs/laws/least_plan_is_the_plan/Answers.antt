-- The plan is the plan of the first list.
use Rattle.slot_plan.proofs.LeastPlanLemmas.{least-plan-is}
use Rattle.slot_plan.proofs.laws.least_plan_is_the_plan.Goals as goal

pub returns : goal.returns
returns c = least-plan-is
