-- The lines about gains give the range of the steps.
use Rattle.info_laws.proofs.StepLemmas.{says-steps}
use Rattle.info_laws.proofs.laws.info_says_the_steps.Goals as goal

pub returns : goal.returns
returns c = says-steps
