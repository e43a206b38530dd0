-- The led plan is the plan of the first list.
use Rattle.slot_plan.proofs.LeastPlanLemmas.{led-plan-is}
use Rattle.slot_plan.proofs.laws.led_plan_is_least.Goals as goal

pub returns : goal.returns
returns c = led-plan-is
