-- One more need, and the last.
use Rattle.std.proofs.Common.{arith, sym, ◌∙◌}
use Rattle.plan_tests.proofs.CheckedLemmas.{class-all, class-more}
use Rattle.plan_tests.proofs.tests.checked.are_of_one_class.Goals as goal

pub loop-need-preserved : goal.loop-need-preserved
loop-need-preserved c =
    class-more c.args.needs.now c.loop-need.need-index
    c.loop-need-test.true c.need-item.is
    (sym c.class.ensures ∙ c.is_same.ensures.equal.0 c.if-not-is_same.false) c.loop-need.invariant

pub returns : goal.returns
returns c = λ is.
    class-all c.args.needs.now c.loop-need.need-index c.index-needs-0.result
    c.requires (omega (arith, c.loop-need-test.false))
    c.class-class.ensures c.loop-need.invariant
