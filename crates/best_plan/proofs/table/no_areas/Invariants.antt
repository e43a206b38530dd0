-- The sums so far.
use Rattle.std.proofs.Common.{get_or, length, ℕ, ◌≡◌}
use Rattle.best_plan.proofs.table.no_areas.Given as goal

abbrev pub invariant-loop : goal.invariant-loop
invariant-loop l = record {
  count : length l.sums.items ≡ l.counter;
  zeros : (k : ℕ) → get_or l.sums.items k 0 ≡ 0;
}
