-- What all leave is what the others leave after the first.
use Rattle.slot_plan.proofs.FreeByteLemmas.{left-on}
use Rattle.slot_plan.proofs.laws.leaves_go_on.Goals as goal

pub returns : goal.returns
returns c = left-on
