-- The frames and blocks are consecutive.
use Rattle.laying.proofs.LaidFileLemmas.{laid-survey}
use Rattle.laying.proofs.laid_laws.laid_survey.Goals as goal

pub returns : goal.returns
returns c = laid-survey
