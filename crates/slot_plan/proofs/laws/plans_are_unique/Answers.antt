-- At most one plan.
use Rattle.slot_plan.proofs.OnePlanLemmas.{one-plan}
use Rattle.slot_plan.proofs.laws.plans_are_unique.Goals as goal

pub returns : goal.returns
returns c = one-plan
