-- One more sum.
use Rattle.std.proofs.Common.{arith, length, refl, ◌<◌}
use Rattle.best_plan.proofs.UnitSlopeLemmas.{added-more}
use Rattle.best_plan.proofs.unit_slope.add_to_all.Goals as goal

pub loop-sum-preserved : goal.loop-sum-preserved
loop-sum-preserved c =
    let at = c.loop-sum in
    let within : at.sum-index < length c.args.sums.now =
    omega (arith, c.loop-sum-test.true, at.auto.sums) in
    added-more c.args.bytes c.args.sums.now at.sums at.sum-index 0 within at.invariant refl
