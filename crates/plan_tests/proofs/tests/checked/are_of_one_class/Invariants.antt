-- The needs before have the class.
use Rattle.std.proofs.Common.{drop}
use Rattle.slot_plan.specs.Parts.{AreNeedsOfClass}
use Rattle.plan_tests.proofs.tests.checked.are_of_one_class.Given as goal

abbrev pub invariant-loop-need : goal.invariant-loop-need
invariant-loop-need l =
    AreNeedsOfClass l.class (drop l.need-index l.needs) → AreNeedsOfClass l.class l.needs
