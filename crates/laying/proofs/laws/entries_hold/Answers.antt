-- The starts of a plan are no later than those of any layout.
use Rattle.laying.proofs.FittingFrameLemmas.{entries-hold}
use Rattle.laying.proofs.laws.entries_hold.Goals as goal

pub returns : goal.returns
returns c = entries-hold
