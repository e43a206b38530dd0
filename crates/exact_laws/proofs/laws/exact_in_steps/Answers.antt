-- The file of the first step is an exact piece too.
use Rattle.exact_laws.proofs.ExactStepLemmas.{exact-in-steps}
use Rattle.exact_laws.proofs.laws.exact_in_steps.Goals as goal

pub returns : goal.returns
returns c = exact-in-steps
