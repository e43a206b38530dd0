-- One more frame, and the first that doesn't fit.
use Rattle.std.proofs.Common.{ap, arith, subst, ◌∙◌, ◌≡◌}
use Rattle.rate_plan.proofs.FitLemmas.{area-at, most_area, to-all, to-begun, to-more, to-unfit}
use Rattle.rate_plan.{proofs.unfit.first_unfit.Goals.After-area-area, specs.Menus.IsFirstUnfitFrame}
use Rattle.slot_plan.specs.Reserve.{free_bytes_behind}
use Rattle.rate_plan.proofs.unfit.first_unfit.Goals as goal

pub loop-i-init : goal.loop-i-init
loop-i-init c =
    omega (
      arith,
      to-begun,
      c.free_behind-free.ensures.within,
      c.window-window.result,
      c.free_behind-free.result,
      c.free_behind-free.ensures.free,
      c.area.ensures,
      c.of_menu-largest.ensures.are,
    )

-- the frame's area is the largest on the menu
most : (c : After-area-area) → c.area-area.result ≡ most_area c.args.menu.now c.index-needs-i.result
most c = grind (arith, area-at)

pub returns-then-need-free : goal.returns-then-need-free
returns-then-need-free c =
    let need = c.index-needs-i.result in
    let area = most (goal.at.returns-then-need-free c).After-area-area in
    subst (λ n. IsFirstUnfitFrame n c.args.menu.now c.args.needs.now c.loop-i.i)
    c.window-window.ensures.window
    (to-unfit c.window-window.result c.args.class c.args.menu.now c.args.needs.now c.loop-i.i
    c.loop-i-test.true c.index-needs-i.is
    (omega (arith, c.if-need-free.true, area, ap (λ n. n.bytes) c.need.view_is))
    c.requires.needs.class_is c.requires.menu.slots c.loop-i.invariant.fit)

pub loop-i-preserved : goal.loop-i-preserved
loop-i-preserved c =
    let need = c.index-needs-i.result in
    let area = most (goal.at.loop-i-preserved c).After-area-area in
    record {
      free = c.free_behind-free-in-loop-i.ensures.within;
      fit = to-more c.window-window.result c.args.class c.args.menu.now c.args.needs.now c.loop-i.i
          c.loop-i-test.true c.index-needs-i.is
          (omega (arith, c.if-need-free.false, area, ap (λ n. n.bytes) c.need.view_is))
          (c.free_behind-free-in-loop-i.ensures.free
          ∙ ap
          (λ n. free_bytes_behind c.window-window.result c.loop-i.free n.bytes c.area-area.result)
          c.need.view_is
          ∙ ap (λ n. free_bytes_behind c.window-window.result c.loop-i.free need.bytes n) area)
          c.loop-i.invariant.fit;
    }

pub returns : goal.returns
returns c = grind (arith, to-all)
