-- The numbers of the stretches so far.
use Rattle.std.proofs.Common.{length, take, ◌≡◌}
use Rattle.remove_edits.specs.Removed.{all_stretch_frames}
use Rattle.remove_edits.proofs.stretches.stretch_frames.Given as goal

abbrev pub invariant-loop-from : goal.invariant-loop-from
invariant-loop-from l =
    (l.numbers.items
    ≡ all_stretch_frames l.class l.frames (take l.from-index l.stretches))
    × (length l.numbers.items ≡ l.from-index)
