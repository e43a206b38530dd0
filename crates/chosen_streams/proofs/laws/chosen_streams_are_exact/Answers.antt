-- One part, whose plan is its first.
use Rattle.chosen_streams.proofs.CaseLemmas.{chosen-exact}
use Rattle.chosen_streams.proofs.laws.chosen_streams_are_exact.Goals as goal

pub returns : goal.returns
returns c = chosen-exact
