-- `wanted` is what the frames from here on want.
use Rattle.std.proofs.Common.{drop, ◌≡◌}
use Rattle.slot_plan.proofs.FreeByteLemmas.{own_needed}
use Rattle.slot_plan.proofs.free_bytes.wants.Given as goal

abbrev pub invariant-loop-i : goal.invariant-loop-i
invariant-loop-i l = l.wanted ≡ own_needed (drop l.i l.needs)
