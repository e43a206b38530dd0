-- All parts have one plan.
use Rattle.chosen_streams.proofs.JoinCaseLemmas.{joined-first}
use Rattle.chosen_streams.proofs.laws.joined_plans_are_first.Goals as goal

pub returns : goal.returns
returns c = joined-first
