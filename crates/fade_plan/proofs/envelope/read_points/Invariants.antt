-- The lines so far are not at fault and have these points, and the other lines are after them.
use Rattle.std.{proofs.Common.{length, ◌+◌, ◌-◌, ◌≤◌}, specs.List.All}
use Rattle.fade_plan.{proofs.SheetLemmas.HaveRead, specs.Points.IsKeptPoint}
use Rattle.fade_plan.proofs.envelope.read_points.Given as goal

abbrev pub invariant-loop-at : goal.invariant-loop-at
invariant-loop-at l = HaveRead l.text l.at l.line l.points.items × All IsKeptPoint l.points.items
    × (l.at ≤ length l.text + 1) × (l.line ≤ l.at + 1)

abbrev pub decreases-loop-at : goal.decreases-loop-at
decreases-loop-at l = length l.text + 1 - l.at
