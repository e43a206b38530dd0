-- The frames of a plan can be laid, so a file of them is of the form that is well-formed.
use Rattle.laying.proofs.FittingFrameLemmas.{files-hold}
use Rattle.laying.proofs.laws.files_hold.Goals as goal

pub returns : goal.returns
returns c = files-hold
