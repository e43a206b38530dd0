-- One point more that rises, one that doesn't, and the end.
use Rattle.std.proofs.{Common.arith, lemmas.List.Sorted.IsNonDecreasingBy-from_all_adjacent}
use Rattle.fade_plan.proofs.LowLemmas.{adjacent_more, ends, passes, stops}
use Rattle.fade_plan.proofs.point.first_not_rising.Goals as goal

pub returns-then-points-next-clause-line : goal.returns-then-points-next-clause-line
returns-then-points-next-clause-line c = grind (arith, stops)

pub loop-next-preserved : goal.loop-next-preserved
loop-next-preserved c = grind (arith, passes, adjacent_more)

pub returns-clause-line : goal.returns-clause-line
returns-clause-line c = grind (arith, ends)

pub returns-clause-rising : goal.returns-clause-rising
returns-clause-rising c none =
    IsNonDecreasingBy-from_all_adjacent (λ p. p.frame) c.args.points.now
    (λ k d less. c.loop-next.invariant.2 k d (omega (arith, less, c.loop-next-test.false)))
