-- From one input to the next.
use Rattle.chosen_streams.proofs.JoinCaseLemmas.{joined-exact}
use Rattle.chosen_streams.proofs.laws.joined_streams_are_exact.Goals as goal

pub returns : goal.returns
returns c = joined-exact
