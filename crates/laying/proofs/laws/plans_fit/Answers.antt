-- From one frame to the next.
use Rattle.laying.proofs.FitLemmas.{plans-fit}
use Rattle.laying.proofs.laws.plans_fit.Goals as goal

pub returns : goal.returns
returns c = plans-fit
