-- Each stretch has two exact places.
use Rattle.remove_edits.proofs.stretches.stretch_frames.Goals as goal

pub frame_of-requires : goal.frame_of-requires
frame_of-requires c = (c.requires.exact c.loop-from.from-index _ c.loop-from-test.true).0

pub frame_of-requires-in-loop-from : goal.frame_of-requires-in-loop-from
frame_of-requires-in-loop-from c =
    (c.requires.exact c.loop-from.from-index _ c.loop-from-test.true).1
