-- The frames of a surveyed file have one plan.
use Rattle.chosen_streams.proofs.CaseLemmas.{plans-first}
use Rattle.chosen_streams.proofs.laws.chosen_plans_are_first.Goals as goal

pub returns : goal.returns
returns c = plans-first
