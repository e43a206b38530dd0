-- One more frame, from the last to the first.
use Rattle.std.proofs.Common.{arith, subst, [], ◌++◌, ◌+◌, ◌-◌, ◌∷◌, ◌≡◌}
use Rattle.slot_plan.proofs.PartLemmas.{reserves-all, reserves-more, reserves-none, ReservesFrom}
use Rattle.slot_plan.proofs.{PartLemmas.same-class, reserves.reserves_of.Given.Over}
use Rattle.slot_plan.proofs.reserves.reserves_of.Goals as goal

more : (g : Over) (c : goal.After-needed_before-before g)
    → ReservesFrom c.args.window (g.O.Offer.slots_of c.args.offer.now)
    (g.O.Offer.some_area_of c.args.offer.now) c.args.part.now (c.loop-i.i - 1)
    (c.loop-i.behind.items ++ c.loop-i.before ∷ []) c.needed_before-before.result
more g c =
    let from = ReservesFrom c.args.window (g.O.Offer.slots_of c.args.offer.now)
    (g.O.Offer.some_area_of c.args.offer.now) c.args.part.now in
    let next : c.loop-i.i ≡ c.loop-i.i - 1 + 1 = omega (arith, c.loop-i-test.true) in
    reserves-more c.args.window (g.O.Offer.slots_of c.args.offer.now)
    (g.O.Offer.some_area_of c.args.offer.now) c.args.part.now _
    (omega (arith, c.loop-i-test.true, c.loop-i.auto.i)) c.index-part-i.is c.requires.part.feasible
    c.needed_before-before.ensures.has c.needed_before-before.ensures.needed
    (subst (λ k. from k c.loop-i.behind.items c.loop-i.before) next c.loop-i.invariant.from)

pub needed_before-before-requires : goal.needed_before-before-requires
needed_before-before-requires g c = search (arith, same-class)

pub overflow_cast-before : goal.overflow_cast-before
overflow_cast-before g c = grind (arith, more g c)

pub loop-i-init : goal.loop-i-init
loop-i-init g c =
    grind (
      arith,
      reserves-none c.args.window (g.O.Offer.slots_of c.args.offer.now)
          (g.O.Offer.some_area_of c.args.offer.now) c.args.part.now,
    )

pub loop-i-preserved : goal.loop-i-preserved
loop-i-preserved g c = grind (arith, more g c)

pub returns : goal.returns
returns g c = search (arith, reserves-all)
