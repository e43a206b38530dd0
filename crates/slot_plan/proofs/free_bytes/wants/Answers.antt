-- One more frame, from the last to the first.
use Rattle.std.proofs.Common.{arith}
use Rattle.slot_plan.proofs.FreeByteLemmas.{fits-in, wanted-all, wanted-before, wanted-most}
use Rattle.slot_plan.proofs.FreeByteLemmas.{wanted-next, wanted-none, window-most}
use Rattle.slot_plan.proofs.free_bytes.wants.Goals as goal

pub loop-i-init : goal.loop-i-init
loop-i-init c = wanted-none c.args.needs.now

pub overflow_add-need : goal.overflow_add-need
overflow_add-need c = search (arith, wanted-before, wanted-most, window-most)

pub loop-i-preserved : goal.loop-i-preserved
loop-i-preserved c = grind (arith, wanted-before, wanted-next)

pub returns : goal.returns
returns c = λ class same.
    wanted-all (omega (arith, c.loop-i-test.false))
    (fits-in c.requires.class class c.args.needs.now (λ n. n) c.requires.same same c.requires.fits)
    c.loop-i.invariant
