-- The sums so far.
use Rattle.best_plan.specs.Rows.{AreSums}
use Rattle.best_plan.proofs.bounded_slope.write_sums.Given as goal

abbrev pub invariant-loop-free : goal.invariant-loop-free
invariant-loop-free l =
    AreSums l.row.window l.row.bytes l.area l.row.later.now l.start l.free l.initial.sums l.sums

abbrev pub invariant-loop-more : goal.invariant-loop-more
invariant-loop-more l =
    AreSums l.row.window l.row.bytes l.area l.row.later.now l.start l.more l.initial.sums l.sums
