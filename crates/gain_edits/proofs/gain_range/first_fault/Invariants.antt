-- No gain of the frames before leaves its range.
use Rattle.std.proofs.Common.{drop, ◌≡◌}
use Rattle.gain_edits.specs.GainRange.{range_fault}
use Rattle.moved_gains.specs.Course.{steps_at_offset}
use Rattle.gain_edits.proofs.gain_range.first_fault.Given as goal

abbrev pub invariant-loop-frame : goal.invariant-loop-frame
invariant-loop-frame l = range_fault (steps_at_offset l.course l.rows) l.rows
    ≡ range_fault (steps_at_offset l.course l.rows) (drop l.frame l.rows)
