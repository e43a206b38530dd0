-- What the first frame leaves, and then the others.
use Rattle.std.proofs.Common.{ap₂, arith, subst, sym, ◌+◌, ◌∙◌, ◌≡◌, ◌≤◌}
use Rattle.frame_header.specs.Tables.{window_of}
use Rattle.seam_plan.proofs.adding.left_behind.Goals.{After-area, After-free_behind-free}
use Rattle.slot_plan.proofs.FreeByteLemmas.{fits-cons, left-cons}
use Rattle.slot_plan.specs.{FreeBytes.{FitsBehind, IsMostLeft}, Parts.own_slot_area}
use Rattle.slot_plan.specs.Reserve.{free_bytes_behind}
use Rattle.seam_plan.proofs.adding.left_behind.Goals as goal

-- the first frame has room, and the others fit after what it leaves
both : (c : After-area) → (c.args.first.now.bytes ≤ c.args.left + own_slot_area c.args.first.now)
    × FitsBehind (window_of c.args.class.version)
    (free_bytes_behind (window_of c.args.class.version) c.args.left c.args.first.now.bytes
    (own_slot_area c.args.first.now)) c.args.others.now
both c = fits-cons c.args.first.now c.args.others.now
    c.requires.within c.requires.fits

-- the first frame leaves as many bytes
free : (c : After-free_behind-free) → c.free_behind-free.result
    ≡ free_bytes_behind (window_of c.args.class.version) c.args.left c.args.first.now.bytes
    (own_slot_area c.args.first.now)
free c = c.free_behind-free.ensures.free
    ∙ ap₂ (λ w a. free_bytes_behind w c.args.left c.args.first.now.bytes a)
    c.window.ensures.window c.area.ensures.area

-- they are at most the window
most : (c : After-free_behind-free) → c.free_behind-free.result ≤ window_of c.args.class.version
most c = omega (arith, c.free_behind-free.ensures.within, c.window.ensures.window)

pub free_behind-free-requires-clause-fits : goal.free_behind-free-requires-clause-fits
free_behind-free-requires-clause-fits c =
    let at = (goal.at.free_behind-free-requires-clause-fits c).After-area in
    omega (arith, (both at).0, c.area.ensures.area)

pub leaves-requires : goal.leaves-requires
leaves-requires c = record {
  class = c.args.class;
  same = c.requires.same;
  within = most c;
  fits = subst (λ n. FitsBehind (window_of c.args.class.version) n c.args.others.now)
      (sym (free c)) (both (goal.at.leaves-requires c).After-area).1;
}

pub returns : goal.returns
returns c =
    let at = goal.at.returns c in
    let window = window_of c.args.class.version in
    left-cons
    c.requires.within (both at.After-area).0
    (subst (λ n. IsMostLeft window n c.args.others.now c.leaves.result)
    (free at.After-free_behind-free)
    (c.leaves.ensures c.args.class c.requires.same (most at.After-free_behind-free)))
