-- From one frame to the next.
use Rattle.laying.proofs.FittingFrameLemmas.{fitting-files-hold}
use Rattle.laying.proofs.laws.fitting_files_hold.Goals as goal

pub returns : goal.returns
returns c = fitting-files-hold
