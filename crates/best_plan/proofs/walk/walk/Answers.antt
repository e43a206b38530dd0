-- One more frame, and the last.
use Rattle.std.proofs.Common.{arith, length, take, ◌+◌, ◌-◌, ◌≡◌}
use Rattle.best_plan.proofs.WalkLemmas.{area-is, goes-all, goes-begun, goes-more, place-is}
use Rattle.best_plan.proofs.WalkLemmas.{walk-next, walk-open}
use Rattle.slot_plan.{proofs.PartLemmas.same-class, specs.Parts.{item_area, need_item}}
use Rattle.slot_plan.specs.Reserve.{free_bytes_behind}
use Rattle.best_plan.proofs.walk.walk.Goals as goal

pub overflow_sub-from : goal.overflow_sub-from
overflow_sub-from g c =
    grind (
      arith,
      walk-open c.args.needs.now
          c.loop-need.invariant.free c.loop-need-test.true c.need-item.is c.loop-need.invariant.can,
    )

pub loop-need-init : goal.loop-need-init
loop-need-init g c = grind (arith, goes-begun)

pub index-place-requires : goal.index-place-requires
index-place-requires g c =
    grind (
      arith,
      walk-open c.args.needs.now
          c.loop-need.invariant.free c.loop-need-test.true c.need-item.is c.loop-need.invariant.can,
    )

pub frame_at-frame-requires-clause-place : goal.frame_at-frame-requires-clause-place
frame_at-frame-requires-clause-place g c =
    let front = walk-open c.args.needs.now
    c.loop-need.invariant.free c.loop-need-test.true c.need-item.is c.loop-need.invariant.can in
    let place = place-is front c.loop-need.invariant.free
    (omega (arith, c.len.ensures)) c.index-place.ensures in
    omega (arith, front.choice.within front.some, place)

pub area_with-area-requires : goal.area_with-area-requires
area_with-area-requires g c = grind (arith, same-class)

pub free_behind-free-requires-clause-fits : goal.free_behind-free-requires-clause-fits
free_behind-free-requires-clause-fits g c =
    let front = walk-open c.args.needs.now
    c.loop-need.invariant.free c.loop-need-test.true c.need-item.is c.loop-need.invariant.can in
    let choices = g.P.Policy.choices_of c.args.policy.now in
    let at = area-is front c.loop-need.invariant.free
    (omega (arith, c.len.ensures)) c.index-place.ensures
    c.frame_at-frame.ensures.area in
    omega (arith, front.choice.fits front.some, c.area_with-area.ensures.area, at)

pub loop-need-preserved : goal.loop-need-preserved
loop-need-preserved g c =
    let front = walk-open c.args.needs.now
    c.loop-need.invariant.free c.loop-need-test.true c.need-item.is c.loop-need.invariant.can in
    let choices = g.P.Policy.choices_of c.args.policy.now in
    let need = c.need-item.result in
    let slot = c.frame_at-frame.result.slot in
    let at = area-is front c.loop-need.invariant.free
    (omega (arith, c.len.ensures)) c.index-place.ensures
    c.frame_at-frame.ensures.area in
    let free : c.free_behind-free.result ≡ free_bytes_behind c.args.room.window c.loop-need.free
    need.bytes (item_area (need_item choices need) slot) = grind arith in
    let taken : c.truncate.new.self.items
    ≡ take (length c.loop-need.places.items - (c.args.room.window + 1)) c.loop-need.places.items =
    grind arith in
    record {
      free = c.free_behind-free.ensures.within;
      can = grind (arith, walk-next);
      goes = rw c.in_ok-push.ensures.items
          (goes-more
          c.loop-need-test.true c.need-item.is front c.frame_at-frame.ensures.ascending at
          c.frame_at-frame.ensures.chosen c.frame_at-frame.ensures.frame
          c.frame_at-frame.ensures.begin free c.loop-need.invariant.goes);
    }

pub returns : goal.returns
returns g c = search (arith, goes-all)
