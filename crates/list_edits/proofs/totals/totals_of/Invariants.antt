-- The frames before have these totals.
use Rattle.std.proofs.Common.{drop, ◌*◌, ◌^◌, ◌≤◌}
use Rattle.list_edits.proofs.TotalsLemmas.{AreBefore}
use Rattle.list_edits.proofs.totals.totals_of.Given as goal

abbrev pub invariant-loop-row : goal.invariant-loop-row
invariant-loop-row l = record {
  before : AreBefore l.rows (drop l.row-index l.rows) l.headers l.sides;
  areas : l.headers.areas ≤ 1441 * l.row-index;
  lengths : l.headers.lengths ≤ 1441 * l.row-index;
  lost : l.sides.lost ≤ l.row-index;
  main_data : l.sides.main_data ≤ 2 ^ 32 * l.row-index;
}
