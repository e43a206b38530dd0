-- The frames so far were placed, and by what is left of the table some list fits.
use Rattle.std.proofs.Common.{drop, ◌≤◌}
use Rattle.best_plan.{proofs.WalkLemmas.GoesOn, specs.Table.CanWalkTable}
use Rattle.best_plan.proofs.walk.walk.Given as goal

abbrev pub invariant-loop-need : goal.invariant-loop-need
invariant-loop-need g l = record {
  free : l.free ≤ l.window;
  can : CanWalkTable l.window (g.P.Policy.choices_of l.policy) l.free (drop l.need-index l.needs)
      l.places.items;
  goes : GoesOn l.window (g.P.Policy.choices_of l.policy) l.initial.free l.free l.needs
      (drop l.need-index l.needs) l.initial.placed.items l.placed.items;
}
