-- The first slot that isn't too small, or the last.
use Rattle.std.proofs.Common.{arith}
use Rattle.slot_plan.proofs.AreaLemmas.{area-last, least-first}
use Rattle.slot_plan.proofs.ascending.least_slot_among.Goals as goal

pub returns-then-wanted-from : goal.returns-then-wanted-from
returns-then-wanted-from c =
    least-first (omega (arith, c.loop-place-test.true))
    c.index-slots-place.is c.requires.rising.ascending
    (λ k before. c.loop-place.invariant k c.index-slots-place.result before)
    (omega (arith, c.if-wanted-from.true, c.from.ensures, c.area_of.ensures.area))

pub returns : goal.returns
returns c = grind (arith, area-last, least-first)
