-- One more frame, and the last.
use Rattle.std.proofs.Common.{arith}
use Rattle.plan_tests.proofs.CheckedLemmas.{fit-all, fit-next}
use Rattle.plan_tests.proofs.tests.checked.fit.Goals as goal

pub loop-need-preserved : goal.loop-need-preserved
loop-need-preserved c = record {
  free = c.free_behind-free.ensures.within;
  on = fit-next c.args.window c.args.before c.loop-need.free c.args.part.now c.loop-need.need-index
      c.loop-need-test.true c.need-item.is
      c.area-area.ensures.area (omega (arith, c.if-need-free.false))
      c.free_behind-free.ensures.free c.loop-need.invariant.on;
}

pub returns : goal.returns
returns c = λ is. fit-all c.loop-need.free c.args.part.now
    c.loop-need.need-index c.requires.before (omega (arith, c.loop-need-test.false))
    c.loop-need.invariant.on
