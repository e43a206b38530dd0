-- The bounds of the sums so far.
use Rattle.std.proofs.Common.{◌≡◌}
use Rattle.best_plan.proofs.RowLemmas.{AreBoundsTo}
use Rattle.best_plan.proofs.choice.bounds_of.Given as goal

abbrev pub invariant-loop-free : goal.invariant-loop-free
invariant-loop-free l = record {
  bounds : AreBoundsTo l.later l.free l.known.alone l.known.together;
  from : l.known.from ≡ 0;
}
