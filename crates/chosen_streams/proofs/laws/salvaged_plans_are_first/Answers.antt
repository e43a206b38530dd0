-- The frames that are left have one plan.
use Rattle.chosen_streams.proofs.SalvageCaseLemmas.{salvaged-first}
use Rattle.chosen_streams.proofs.laws.salvaged_plans_are_first.Goals as goal

pub returns : goal.returns
returns c = salvaged-first
