-- The areas so far.
use Rattle.std.proofs.Common.{get_or, ℕ, ◌+◌, ◌-◌, ◌<◌, ◌≤◌}
use Rattle.best_plan.proofs.unit_slope.has_window_room.Given as goal

abbrev pub invariant-loop-place : goal.invariant-loop-place
invariant-loop-place l =
    (k : ℕ) → 0 < k → k < l.place → get_or l.areas k 0 ≤ get_or l.areas (k - 1) 0 + l.window
