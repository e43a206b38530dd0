-- The points so far rise, so the first that doesn't is after them.
use Rattle.std.{proofs.Common.{drop, length, ◌-◌, ◌≡◌, ◌≤◌}, specs.List.AllAdjacentBelow}
use Rattle.fade_plan.specs.Points.{first_not_rising}
use Rattle.fade_plan.proofs.point.first_not_rising.Given as goal

abbrev pub invariant-loop-next : goal.invariant-loop-next
invariant-loop-next l =
    (1 ≤ l.next) × (first_not_rising l.points ≡ first_not_rising (drop (l.next - 1) l.points))
    × AllAdjacentBelow (λ x y. x.frame ≤ y.frame) l.points l.next

abbrev pub decreases-loop-next : goal.decreases-loop-next
decreases-loop-next l = length l.points - l.next
