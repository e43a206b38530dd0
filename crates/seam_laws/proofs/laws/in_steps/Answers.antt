-- The file of the first step is a piece too.
use Rattle.seam_laws.proofs.SplitStepLemmas.{in-steps}
use Rattle.seam_laws.proofs.laws.in_steps.Goals as goal

pub returns : goal.returns
returns c = in-steps
