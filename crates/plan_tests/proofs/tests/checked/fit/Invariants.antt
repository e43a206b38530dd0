-- Where the frames from here on fit, all do.
use Rattle.std.proofs.Common.{drop, map, ◌≤◌}
use Rattle.slot_plan.{proofs.ReserveLemmas.AllFit, specs.Parts.own_frame}
use Rattle.plan_tests.proofs.tests.checked.fit.Given as goal

abbrev pub invariant-loop-need : goal.invariant-loop-need
invariant-loop-need l = record {
  free : l.free ≤ l.window;
  on : AllFit l.window l.free (map own_frame (drop l.need-index l.part))
      → AllFit l.window l.before (map own_frame l.part);
}
