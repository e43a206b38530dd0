-- One point more has its frame.
use Rattle.std.proofs.{Common.{arith, length, ◌<◌}, lemmas.List.Elements.All-set}
use Rattle.fade_plan.{proofs.LowLemmas.placed_point-step, specs.Points.IsKeptPoint}
use Rattle.fade_plan.proofs.point.place_all.Goals as goal

pub loop-point-preserved : goal.loop-point-preserved
loop-point-preserved c =
    let at = c.loop-point in
    let within : at.point-index < length c.args.points.now =
    omega (arith, c.loop-point-test.true, at.auto.points) in (
      placed_point-step c.args.class c.args.frames c.args.points.now _ within
          at.invariant.0 c.frame_of-point.ensures.frame,
      All-set IsKeptPoint at.points at.point-index _ (record {
        sound = (at.invariant.1 at.point-index _ (omega (arith, within, at.auto.points))).sound;
        frame = c.frame_of-point.ensures.most;
      }) at.invariant.1,
    )
