-- By the plan, which can be written frame by frame.
use Rattle.laying.proofs.FittingFrameLemmas.{slots-planned}
use Rattle.laying.proofs.info_laws.slots_are_planned.Goals as goal

pub returns : goal.returns
returns c = slots-planned
