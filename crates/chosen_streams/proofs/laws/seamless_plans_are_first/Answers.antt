-- The splice has one plan.
use Rattle.chosen_streams.proofs.SeamlessCaseLemmas.{seamless-first}
use Rattle.chosen_streams.proofs.laws.seamless_plans_are_first.Goals as goal

pub returns : goal.returns
returns c = seamless-first
