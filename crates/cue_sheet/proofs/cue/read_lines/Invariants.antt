-- The lines so far have no fault and these starts, and the other lines are after them.
use Rattle.std.proofs.Common.{length, ◌+◌, ◌-◌, ◌≤◌}
use Rattle.cue_sheet.proofs.CuesLemmas.{HaveRead}
use Rattle.cue_sheet.proofs.cue.read_lines.Given as goal

abbrev pub invariant-loop-at : goal.invariant-loop-at
invariant-loop-at l = HaveRead l.text l.at l.seen l.starts.items × (l.at ≤ length l.text + 1)
    × (l.seen.lines ≤ l.at) × (l.seen.tracks ≤ l.seen.lines)

abbrev pub decreases-loop-at : goal.decreases-loop-at
decreases-loop-at l = length l.text + 1 - l.at
