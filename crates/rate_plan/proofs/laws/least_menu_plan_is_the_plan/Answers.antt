-- The plan from a menu is the plan of the first list.
use Rattle.rate_plan.proofs.LeastMenuPlanLemmas.{least_menu_plan-is}
use Rattle.rate_plan.proofs.laws.least_menu_plan_is_the_plan.Goals as goal

pub returns : goal.returns
returns c = least_menu_plan-is
