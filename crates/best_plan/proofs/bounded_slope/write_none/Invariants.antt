-- There are no sums so far.
use Rattle.std.proofs.Common.{get_or, length, ℕ, ◌<◌, ◌≡◌}
use Rattle.best_plan.specs.Rows.{nothing}
use Rattle.best_plan.proofs.bounded_slope.write_none.Given as goal

abbrev pub invariant-loop-free : goal.invariant-loop-free
invariant-loop-free l = record {
  width : length l.sums ≡ length l.initial.sums;
  none : (k : ℕ) → k < l.free → get_or l.sums k 0 ≡ nothing;
}
