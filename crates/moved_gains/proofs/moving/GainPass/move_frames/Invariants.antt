-- The frames before were passed on with their gains
-- moved, and so was what is before and between them.
use Rattle.std.proofs.Common.{drop, List, ℕ, ◌≡◌}
use Rattle.moved_gains.specs.{Course.steps_at_offset, Moving.{AreRowsOf, bytes_written_from}}
use Rattle.outside.{proofs.PassLemmas.WritesUpTo, specs.{Files.Holds, Pass.IsPassReady}}
use Rattle.sync_survey.specs.Survey.{FramesAreLaid}
use Rattle.moved_gains.proofs.moving.GainPass.move_frames.Given as goal

abbrev pub invariant-loop-frame : goal.invariant-loop-frame
invariant-loop-frame g l = record {
  laid : FramesAreLaid l.at (drop l.frame l.rows) l.self.pass.length;
  told : (file : List ℕ) → Holds (g.D.Folder.seen l.fn.folder).files l.self.pass.input.now file
      → AreRowsOf file (drop l.frame l.rows);
  up_to : WritesUpTo
      l.self.pass (λ file. bytes_written_from (steps_at_offset l.self.course.now l.rows)
      l.self.tag file l.fn.from l.fn.rows) (λ file.
      bytes_written_from (steps_at_offset l.self.course.now l.rows) l.self.tag file
      l.at (drop l.frame l.rows))
      l.fn.buffers.waiting l.buffers.waiting (g.D.Folder.seen l.fn.folder).files
      (g.D.Folder.seen l.folder).files;
  ready : IsPassReady l.self.pass (g.D.Folder.seen l.folder).files l.buffers.feed;
  counts : (g.D.Folder.seen l.folder).counts ≡ (g.D.Folder.seen l.fn.folder).counts;
}
