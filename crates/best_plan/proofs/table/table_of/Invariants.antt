-- The table of the frames from i on, and how many bytes each free byte saves.
use Rattle.std.proofs.Common.{drop}
use Rattle.best_plan.specs.{Rows.AreKnownSlopes, Table.IsTable}
use Rattle.best_plan.proofs.table.table_of.Given as goal

abbrev pub invariant-loop-i : goal.invariant-loop-i
invariant-loop-i g l = record {
  table : IsTable l.window (g.P.Policy.choices_of l.policy)
      (drop l.i l.needs) l.sums.by_free.items l.places.items;
  known : AreKnownSlopes l.sums;
}
