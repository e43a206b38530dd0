-- The area at this place isn't too small.
use Rattle.std.proofs.Common.{get_or, ◌+◌, ◌<◌, ◌≤◌}
use Rattle.best_plan.proofs.choice.too_small.Given as goal

abbrev pub invariant-loop-place : goal.invariant-loop-place
invariant-loop-place l = l.place < l.from → l.bytes ≤ l.free + get_or l.areas l.place 0
