-- The frames that become empty ones so far, and those from here on.
use Rattle.std.proofs.Common.{drop, length, ◌++◌, ◌-◌, ◌≡◌, ◌≤◌}
use Rattle.salvage.specs.EmptiedFrames.{emptied_from}
use Rattle.salvage.proofs.mended.emptied_of.Given as goal

abbrev pub invariant-loop-number : goal.invariant-loop-number
invariant-loop-number l = (l.number ≤ length l.rows)
    × (l.emptied.items ++ emptied_from l.number (drop l.number l.rows) ≡ emptied_from 0 l.rows)

abbrev pub decreases-loop-number : goal.decreases-loop-number
decreases-loop-number l = length l.rows - l.number
