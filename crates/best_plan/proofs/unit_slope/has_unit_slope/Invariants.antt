-- The sums so far.
use Rattle.std.proofs.Common.{get_or, ℕ, ◌+◌, ◌<◌, ◌≡◌}
use Rattle.best_plan.proofs.unit_slope.has_unit_slope.Given as goal

abbrev pub invariant-loop-free : goal.invariant-loop-free
invariant-loop-free l = (k : ℕ) → k < l.free → get_or l.sums k 0 + k ≡ get_or l.sums 0 0
