-- The frames of some surveys are no more than the frames of all.
use Rattle.std.proofs.Common.{arith}
use Rattle.join_edits.proofs.PlanLemmas.{parts-few}
use Rattle.join_edits.proofs.planned.parts_of.Goals as goal

pub push-requires : goal.push-requires
push-requires c = grind (arith, parts-few)
