-- None of the frames before is coded jointly.
use Rattle.std.proofs.Common.{drop, ◌≡◌}
use Rattle.gain_edits.specs.Channels.{joint_fault}
use Rattle.gain_edits.proofs.channels.joint_fault.Given as goal

abbrev pub invariant-loop-row : goal.invariant-loop-row
invariant-loop-row l = joint_fault l.rows ≡ joint_fault (drop l.row-index l.rows)
