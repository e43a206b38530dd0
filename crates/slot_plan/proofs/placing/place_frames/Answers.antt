-- One more frame.
use Rattle.std.proofs.{Common.{ap, arith, drop, ℕ, ◌+◌, ◌≡◌}, lemmas.List.length-drop}
use Rattle.frame_header.specs.Tables.{area_of, class_of}
use Rattle.slot_plan.proofs.PartLemmas.{area-in, next-reserve_before, next-wanted, next-within}
use Rattle.slot_plan.proofs.{PartLemmas.same-class, PlacedLemmas.{places-begun, places-next}}
use Rattle.slot_plan.specs.Reserve.{free_bytes_behind, open_frames, reserve_before}
use Rattle.slot_plan.proofs.placing.place_frames.Goals as goal

pub place_frame-frame-requires-clause-enough : goal.place_frame-frame-requires-clause-enough
place_frame-frame-requires-clause-enough g c =
    let choices = g.O.Offer.slots_of c.args.offer.now in
    let all = next-reserve_before choices c.args.part.now
    c.loop-need-test.true c.need-item.is in
    let here = (next-wanted choices
    c.args.part.now
    c.loop-need-test.true c.need-item.is c.loop-need.invariant.behind (omega arith)
    c.pop.ensures.items c.pop.ensures.value c.unwrap_or-wanted.ensures).0 in
    omega (arith, all, here, c.loop-need.invariant.enough)

pub place_frame-frame-requires-clause-table : goal.place_frame-frame-requires-clause-table
place_frame-frame-requires-clause-table g c = grind (arith, same-class)

pub free_behind-free-requires-clause-fits : goal.free_behind-free-requires-clause-fits
free_behind-free-requires-clause-fits g c =
    let area =
    area-in c.args.table.now.lengths c.args.part.now c.place_frame-frame.result.slot
    c.requires.table.class
    c.loop-need-test.true c.need-item.is c.need.view_is c.area_of-area.ensures.area in
    omega (arith, c.place_frame-frame.ensures.least.enough, area, ap (λ n. n.bytes) c.need.view_is)

pub loop-need-init : goal.loop-need-init
loop-need-init g c = grind (arith, places-begun)

pub loop-need-preserved : goal.loop-need-preserved
loop-need-preserved g c =
    let choices = g.O.Offer.slots_of c.args.offer.now in
    let part = c.args.part.now in
    let i = c.loop-need.need-index in
    let need = c.need-item.result in
    let slot = c.place_frame-frame.result.slot in
    let next = next-wanted choices part
    c.loop-need-test.true c.need-item.is c.loop-need.invariant.behind (omega arith)
    c.pop.ensures.items c.pop.ensures.value c.unwrap_or-wanted.ensures in
    let within = next-within choices part
    c.loop-need-test.true c.need-item.is c.loop-need.invariant.within in
    let area =
    area-in c.args.table.now.lengths c.args.part.now c.place_frame-frame.result.slot
    c.requires.table.class
    c.loop-need-test.true c.need-item.is c.need.view_is c.area_of-area.ensures.area in
    let free : c.free_behind-free.result ≡ free_bytes_behind c.args.room.window c.loop-need.free
    need.bytes (area_of (class_of need.header) slot need.header.protected) = grind arith in
    let left : ℕ = reserve_before (open_frames choices (drop (i + 1) part)) in
    let least = c.place_frame-frame.ensures.least.enough in
    record {
      room = omega (
        arith,
        c.loop-need-test.true,
        length-drop i part,
        length-drop (i + 1) part,
        c.loop-need.invariant.room,
        c.push_reserved.ensures.len,
        c.push_reserved.ensures.capacity,
      );
      free = c.free_behind-free.ensures.within;
      enough = omega (arith, free, next.0, within.0, least);
      within = within.1;
      behind = next.1;
      placed =
          grind (
            arith,
            places-next choices part
                c.loop-need-test.true c.need-item.is next.0 c.place_frame-frame.ensures.frame
                c.place_frame-frame.ensures.begin c.place_frame-frame.ensures.least free
                c.loop-need.invariant.placed,
          );
    }
