-- There is room for the main data.
use Rattle.std.proofs.Common.{ap, arith, length, subst, sym, ◌*◌, ◌+◌, ◌≡◌, ◌≤◌}
use Rattle.drill.proofs.DrawnSideLemmas.{drawn_side-begin, drawn_side-fits, drawn_side-room}
use Rattle.drill.proofs.{DrawsLemmas.behind-sum, MakingLemmas.{area-is, reach-most}}
use Rattle.drill.proofs.making.DrillWriter.frame.Goals.{After-bits, After-new-frame, After-reach}
use Rattle.drill.specs.Drill.{drill_room}
use Rattle.frame_header.specs.Tables.{area_of, class_of}
use Rattle.frame_writer.specs.Frames.{EndsInArea, Frame, frame_with_data}
use Rattle.drill.proofs.making.DrillWriter.frame.Given as given
use Rattle.drill.proofs.making.DrillWriter.frame.Goals as goal

-- the main data begin in the window
most : (g : given.Over) (c : After-reach g) → c.reach.result ≤ 511
most g c = omega (arith, c.reach.ensures, reach-most c.args.self.now.writer c.requires.next.class)

module _ (g : given.Over) (c : After-bits g) where
  -- there is room for the main data
  room : c.bits.result ≤ 8 * drill_room c.reach.result
  room = grind (arith, drawn_side-room)

  begins : c.draw_side-side.result.main_data_begin ≡ c.reach.result
  begins = grind (arith, drawn_side-begin)

pub draw_payload-payload-requires : goal.draw_payload-payload-requires
draw_payload-payload-requires g c =
    let at = goal.at.draw_payload-payload-requires g c in
    record { few = omega (arith, room g at.After-bits, most g at.After-reach) }

pub new-front-requires : goal.new-front-requires
new-front-requires g c = grind (arith, drawn_side-fits, most)

-- the frame that is given to the writer
frame_is : (g : given.Over) (c : After-new-frame g) → c.new-frame.result
    ≡ frame_with_data c.drill_header.result c.draw_side-side.result c.draw_payload-payload.result
frame_is g c = grind arith

pub frame-requires-clause-start : goal.frame-requires-clause-start
frame-requires-clause-start g c =
    let at = goal.at.frame-requires-clause-start g c in
    omega (
      arith,
      ap (λ (f : Frame). f.kept.side.main_data_begin) (frame_is g at.After-new-frame),
      begins g at.After-bits,
      c.reach.ensures,
    )

pub frame-requires-clause-within : goal.frame-requires-clause-within
frame-requires-clause-within g c =
    let at = goal.at.frame-requires-clause-within g c in
    let area : area_of (class_of c.drill_header.result)
    c.drill_header.result.slot c.drill_header.result.protected ≡ 381 = grind (arith, area-is) in
    let size : length c.draw_payload-payload.result
    ≤ c.draw_side-side.result.main_data_begin + area_of (class_of c.drill_header.result)
    c.drill_header.result.slot c.drill_header.result.protected =
    omega (
      arith,
      area,
      c.draw_payload-payload.ensures.size,
      room g at.After-bits,
      begins g at.After-bits,
    ) in
    subst EndsInArea (sym (frame_is g at.After-new-frame)) size

pub frame-requires-clause-few : goal.frame-requires-clause-few
frame-requires-clause-few g c =
    let at = goal.at.frame-requires-clause-few g c in
    omega (
      arith,
      ap (λ (f : Frame). length f.payload) (frame_is g at.After-new-frame),
      c.draw_payload-payload.ensures.size,
      room g at.After-bits,
      most g at.After-reach,
    )

pub returns-clause-state : goal.returns-clause-state
returns-clause-state g c = grind (arith, behind-sum)
