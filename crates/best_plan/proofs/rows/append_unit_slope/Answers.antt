-- The row of the first areas, and its sums.
use Rattle.best_plan.proofs.UnitSlopeLemmas.{even-again, even-row}
use Rattle.best_plan.proofs.rows.append_unit_slope.Goals as goal

pub returns-clause-row : goal.returns-clause-row
returns-clause-row c =
    even-row
    c.requires.row.width c.requires.even c.requires.room c.add_to_all.ensures
    c.in_ok-append_first_areas.ensures

pub returns-clause-even : goal.returns-clause-even
returns-clause-even c = even-again c.args.sums.now c.args.bytes
    c.requires.even c.add_to_all.ensures
