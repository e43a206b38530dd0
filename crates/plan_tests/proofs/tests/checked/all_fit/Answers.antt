-- One more part, and the last.
use Rattle.std.proofs.Common.{arith, refl}
use Rattle.plan_tests.proofs.CheckedLemmas.{parts-fit, parts-fit-all}
use Rattle.plan_tests.proofs.tests.checked.all_fit.Goals as goal

pub loop-at-preserved : goal.loop-at-preserved
loop-at-preserved c =
    parts-fit c.args.window c.args.needs.now c.args.parts.now c.loop-at.at
    c.loop-at-test.true refl
    c.end_of.ensures.next c.end_of.ensures.last
    (c.fit.ensures c.if-not-fit.false) c.loop-at.invariant

pub returns : goal.returns
returns c = λ is. parts-fit-all c.args.window c.args.needs.now c.args.parts.now c.loop-at.at
    (omega (arith, c.loop-at-test.false)) c.loop-at.invariant
