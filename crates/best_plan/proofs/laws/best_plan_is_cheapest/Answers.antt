-- No plan costs less, and none costs as much.
use Rattle.best_plan.proofs.BestOfLemmas.{best-plan-of}
use Rattle.best_plan.proofs.laws.best_plan_is_cheapest.Goals as goal

pub returns : goal.returns
returns c = best-plan-of
