-- The frames so far are empty if they are lost.
use Rattle.std.proofs.Common.{drop, map, take, ◌++◌, ◌≡◌}
use Rattle.sync_survey.specs.HeadApart.{emptied_row}
use Rattle.sync_survey.proofs.apart.empty_rows.Given as goal

abbrev pub invariant-loop-row : goal.invariant-loop-row
invariant-loop-row l =
    l.rows ≡ map emptied_row (take l.row-index l.initial.rows) ++ drop l.row-index l.initial.rows
