-- What waited when the call began was forwarded, or waits.
use Rattle.std.proofs.Common.{length, ◌≡◌}
use Rattle.frame_writer.specs.{Frames.reach_of, Writing.{ForwardsBytes, ForwardsFrames, writing_of}}
use Rattle.outside.specs.Files.{IsFileThere}
use Rattle.frame_writer.proofs.queue.FrameQueue.hand_on.Given as goal

abbrev pub invariant-loop-self : goal.invariant-loop-self
invariant-loop-self g l = record {
  passed : ForwardsBytes l.name (writing_of l.initial.self l.initial.unsent)
      (writing_of l.self l.unsent)
      (g.D.Folder.seen l.initial.folder).files (g.D.Folder.seen l.folder).files;
  moved : ForwardsFrames l.initial.self l.self;
  class : l.self.class ≡ l.initial.self.class;
  reach : reach_of l.self ≡ reach_of l.initial.self;
  there : IsFileThere (g.D.Folder.seen l.folder).files l.name;
  counts : (g.D.Folder.seen l.folder).counts ≡ (g.D.Folder.seen l.initial.folder).counts;
}

abbrev pub decreases-loop-self : goal.decreases-loop-self
decreases-loop-self g l = length l.self.kept
