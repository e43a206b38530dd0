-- The parts so far are placed, and the parts from here on can be.
use Rattle.std.proofs.Common.{drop, ◌≤◌}
use Rattle.slot_plan.proofs.PlacedLemmas.{PartsPlaced}
use Rattle.slot_plan.specs.Parts.{ArePartsFeasible, needs_in_parts}
use Rattle.slot_plan.proofs.plans.plan.Given as goal

abbrev pub invariant-loop-at : goal.invariant-loop-at
invariant-loop-at g l = record {
  free : l.free ≤ l.window;
  feasible : ArePartsFeasible l.window (needs_in_parts l.needs (drop l.at l.parts));
  placed : PartsPlaced l.window (g.P.Policy.choices_of l.policy) (needs_in_parts l.needs l.parts)
      (needs_in_parts l.needs (drop l.at l.parts)) l.free l.placed.items;
}
