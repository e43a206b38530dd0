-- One more frame, and the last.
use Rattle.std.proofs.Common.{ap, arith, ◌∙◌}
use Rattle.slot_plan.proofs.FreeByteLemmas.{fits-in, leaves-all, leaves-more, leaves-none}
use Rattle.slot_plan.proofs.FreeByteLemmas.{leaves-room, window-read}
use Rattle.slot_plan.specs.Reserve.{free_bytes_behind}
use Rattle.slot_plan.proofs.free_bytes.leaves.Goals as goal

pub loop-need-init : goal.loop-need-init
loop-need-init c = leaves-none c.args.free c.args.needs.now

pub free_behind-left-requires-clause-free : goal.free_behind-left-requires-clause-free
free_behind-left-requires-clause-free c = grind (arith, window-read)

pub free_behind-left-requires-clause-fits : goal.free_behind-left-requires-clause-fits
free_behind-left-requires-clause-fits c = grind (arith, leaves-room)

pub loop-need-preserved : goal.loop-need-preserved
loop-need-preserved c = λ class same within fits.
    let window = window-read class c.args.needs.now same
    c.loop-need-test.true c.need-item.is c.class.ensures c.window-window.ensures.window in
    leaves-more c.loop-need-test.true c.need-item.is c.area.ensures.area
    (c.loop-need.invariant class same within fits)
    (c.free_behind-left.ensures.free
    ∙ ap (λ n. free_bytes_behind n c.loop-need.left c.need-item.result.bytes c.area.result) window)

pub returns : goal.returns
returns c = λ class same within.
    let fits = fits-in c.requires.class class c.args.needs.now (λ n. c.args.free)
    c.requires.same same c.requires.fits in
    leaves-all (omega (arith, c.loop-need-test.false)) within fits
    (c.loop-need.invariant class same within fits)
