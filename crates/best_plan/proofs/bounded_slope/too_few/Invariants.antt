-- There is no sum so far.
use Rattle.std.proofs.Common.{get_or, ℕ, ◌<◌, ◌≡◌}
use Rattle.best_plan.specs.Rows.{nothing}
use Rattle.best_plan.proofs.bounded_slope.too_few.Given as goal

abbrev pub invariant-loop-free : goal.invariant-loop-free
invariant-loop-free l = (k : ℕ) → k < l.free → get_or l.sums k 0 ≡ nothing
