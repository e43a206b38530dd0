-- The frames so far fit.
use Rattle.std.proofs.Common.{◌≤◌}
use Rattle.rate_plan.proofs.FitLemmas.{FitTo}
use Rattle.rate_plan.proofs.unfit.first_unfit.Given as goal

abbrev pub invariant-loop-i : goal.invariant-loop-i
invariant-loop-i l = record {
  free : l.free ≤ l.window;
  fit : FitTo l.window l.fn.class l.menu l.needs l.i l.free;
}
