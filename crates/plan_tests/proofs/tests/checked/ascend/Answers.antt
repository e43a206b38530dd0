-- Where each number is less than the next, they ascend.
use Rattle.std.proofs.{Common.arith, lemmas.List.Kept.AllPairs-from_increasing}
use Rattle.plan_tests.proofs.tests.checked.ascend.Goals as goal

pub returns : goal.returns
returns c = λ is. AllPairs-from_increasing c.args.numbers.now (λ k within. c.loop-at.invariant k
    (omega (arith, within, c.loop-at-test.false)))
