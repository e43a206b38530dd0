-- How many of the numbers so far count.
use Rattle.std.proofs.Common.{take, ◌≡◌}
use Rattle.seamless_edits.specs.LostFrames.{lost_from}
use Rattle.seamless_edits.proofs.apart.count_from.Given as goal

abbrev pub invariant-loop-number : goal.invariant-loop-number
invariant-loop-number l = l.count ≡ lost_from l.from (take l.number-index l.numbers)
