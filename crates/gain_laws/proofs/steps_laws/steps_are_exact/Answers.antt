-- The law, from the gains that would leave the range.
use Rattle.gain_laws.proofs.ExactLemmas.{exact-steps}
use Rattle.gain_laws.proofs.steps_laws.steps_are_exact.Goals as goal

pub returns : goal.returns
returns c = exact-steps
