-- The place before.
use Rattle.std.proofs.Common.{arith}
use Rattle.best_plan.proofs.UnitSlopeLemmas.{first-all, first-more}
use Rattle.best_plan.proofs.unit_slope.append_first_areas.Goals as goal

pub loop-place-preserved : goal.loop-place-preserved
loop-place-preserved c = search (arith, first-more)

pub returns : goal.returns
returns c = first-all (omega (arith, c.loop-place-test.false)) c.loop-place.invariant
