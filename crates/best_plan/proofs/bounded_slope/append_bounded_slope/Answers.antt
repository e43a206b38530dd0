-- One more area, from the last to the first.
use Rattle.std.proofs.Common.{arith, subst, ◌-◌, ◌≡◌}
use Rattle.best_plan.proofs.BoundedSlopeLemmas.{before-slope, IsNearTo, near-begin, near-end}
use Rattle.best_plan.proofs.BoundedSlopeLemmas.{near-next, wrote-back}
use Rattle.best_plan.proofs.bounded_slope.append_bounded_slope.Goals as goal

pub loop-place-init : goal.loop-place-init
loop-place-init c =
    let before = before-slope c.requires.row c.requires.near c.saturating_add-wanted.ensures in
    grind (arith, wrote-back, near-begin before)

pub write_sums-requires-clause-fits : goal.write_sums-requires-clause-fits
write_sums-requires-clause-fits c = λ less.
    let large = c.loop-place.invariant.ends.large c.loop-place.start (omega arith)
    (omega (arith, less, c.end_at-end.ensures.within)) in
    let most = c.requires.row.choices.most (c.loop-place.place - 1) 0
    (omega (arith, c.loop-place-test.true, c.loop-place.auto.place)) in
    omega (
      arith,
      large,
      most,
      less,
      c.end_at-end.ensures.within,
      c.requires.row.choices.narrow,
      c.saturating_add-wanted.ensures,
    )

pub loop-place-preserved : goal.loop-place-preserved
loop-place-preserved c =
    let before = before-slope c.requires.row c.requires.near c.saturating_add-wanted.ensures in
    search (arith, wrote-back, near-next before)

pub returns : goal.returns
returns c =
    let a = c.args in
    let wanted = c.saturating_add-wanted.result in
    let none : c.loop-place.place ≡ 0 = omega (arith, c.loop-place-test.false) in
    near-end
    (subst (λ n. IsNearTo a.row.window a.row.bytes wanted a.row.areas.now a.row.later.now n
    c.loop-place.start c.loop-place.sums.items a.places.now.items c.loop-place.places.items) none
    c.loop-place.invariant)
