-- Where the parts from here on fit, all do.
use Rattle.std.proofs.Common.{drop}
use Rattle.slot_plan.specs.Parts.{ArePartsFeasible, needs_in_parts}
use Rattle.plan_tests.proofs.tests.checked.all_fit.Given as goal

abbrev pub invariant-loop-at : goal.invariant-loop-at
invariant-loop-at l = ArePartsFeasible l.window (needs_in_parts l.needs (drop l.at l.parts))
    → ArePartsFeasible l.window (needs_in_parts l.needs l.parts)
