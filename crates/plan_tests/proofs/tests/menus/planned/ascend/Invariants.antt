-- The areas before i rise from one to the next.
use Rattle.std.proofs.Common.{get_or, ℕ, ◌+◌, ◌<◌}
use Rattle.slot_plan.specs.Parts.{slot_areas}
use Rattle.plan_tests.proofs.tests.menus.planned.ascend.Given as goal

abbrev pub invariant-loop-i : goal.invariant-loop-i
invariant-loop-i l = (k : ℕ) → k + 1 < l.i → get_or (slot_areas l.class l.protected l.menu) k 0
    < get_or (slot_areas l.class l.protected l.menu) (k + 1) 0
