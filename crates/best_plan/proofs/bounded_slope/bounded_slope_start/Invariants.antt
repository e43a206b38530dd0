-- Each of the free bytes so far saves at most one.
use Rattle.std.proofs.Common.{get_or, ℕ, ◌+◌, ◌<◌, ◌≤◌}
use Rattle.best_plan.proofs.bounded_slope.bounded_slope_start.Given as goal

abbrev pub invariant-loop-free : goal.invariant-loop-free
invariant-loop-free l =
    (k : ℕ) → l.least ≤ k → k + 1 < l.free → get_or l.sums k 0 ≤ get_or l.sums (k + 1) 0 + 1
