-- What is asked for names the outputs.
use Rattle.chosen_streams.proofs.NamedLemmas.{outputs-named}
use Rattle.chosen_streams.proofs.laws.outputs_are_named.Goals as goal

pub returns : goal.returns
returns c = outputs-named
