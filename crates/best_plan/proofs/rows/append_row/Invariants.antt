-- The row so far, and `from` as a place of the areas, or after the last.
use Rattle.std.proofs.Common.{length, ◌≤◌}
use Rattle.best_plan.proofs.RowLemmas.{IsRowTo}
use Rattle.best_plan.proofs.rows.append_row.Given as goal

abbrev pub invariant-loop-free : goal.invariant-loop-free
invariant-loop-free l = record {
  row : IsRowTo l.row.window l.row.bytes l.row.areas.now l.row.later.now l.free l.sums.items
      l.initial.places.items l.places.items;
  from : l.from ≤ length l.row.areas.now;
}
