-- The frames so far, written later.
use Rattle.std.proofs.Common.{length, take, ◌≡◌}
use Rattle.remove_edits.specs.Ready.{put_off_by}
use Rattle.remove_edits.proofs.planned.put_off.Given as goal

abbrev pub invariant-loop-frames : goal.invariant-loop-frames
invariant-loop-frames l =
    (l.later.items ≡ put_off_by l.before (take l.frames-index l.written))
    × (length l.later.items ≡ l.frames-index)
