-- What is free here is left by the frames before.
use Rattle.slot_plan.proofs.FreeByteLemmas.{LeavesIn}
use Rattle.slot_plan.proofs.free_bytes.leaves.Given as goal

abbrev pub invariant-loop-need : goal.invariant-loop-need
invariant-loop-need l = LeavesIn l.fn.free l.needs l.need-index l.left
