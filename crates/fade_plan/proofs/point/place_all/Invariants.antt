-- The points so far have their frames.
use Rattle.std.{proofs.Common.{drop, map, take, ◌++◌, ◌≡◌}, specs.List.All}
use Rattle.fade_plan.specs.Points.{IsKeptPoint, placed_point}
use Rattle.fade_plan.proofs.point.place_all.Given as goal

abbrev pub invariant-loop-point : goal.invariant-loop-point
invariant-loop-point l =
    (l.points ≡ map (placed_point l.class l.frames) (take l.point-index l.initial.points)
    ++ drop l.point-index l.initial.points) × All IsKeptPoint l.points
