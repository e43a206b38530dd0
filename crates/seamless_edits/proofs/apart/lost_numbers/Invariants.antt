-- The numbers of the lost frames so far.
use Rattle.std.proofs.Common.{take, ◌≡◌}
use Rattle.seamless_edits.specs.LostFrames.{lost_numbers}
use Rattle.seamless_edits.proofs.apart.lost_numbers.Given as goal

abbrev pub invariant-loop-number : goal.invariant-loop-number
invariant-loop-number l = l.numbers.items ≡ lost_numbers (take l.number l.rows)
