-- From one part to the next.
use Rattle.chosen_streams.proofs.ExactLemmas.{planned-exact}
use Rattle.chosen_streams.proofs.laws.planned_streams_are_exact.Goals as goal

pub returns : goal.returns
returns c = planned-exact
