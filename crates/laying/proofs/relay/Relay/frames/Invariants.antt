-- The frames before were passed to the writer, and the others are to follow.
use Rattle.std.proofs.Common.{drop, ◌≡◌, ◌≤◌}
use Rattle.frame_writer.specs.Frames.{reach_of}
use Rattle.laying.{proofs.RelayLemmas.LaysUpTo, specs.Calls.IsRelayAtFrame}
use Rattle.laying.specs.Passing.{FitsRelayReach, planned_frames, reach_behind_all, writing_in}
use Rattle.laying.proofs.relay.Relay.frames.Given as goal

abbrev pub invariant-loop-place : goal.invariant-loop-place
invariant-loop-place g l = record {
  stands : IsRelayAtFrame l.self (g.D.Folder.seen l.folder).files l.buffers l.reading;
  early : l.reading.next ≤ l.to;
  fits : FitsRelayReach
      (reach_of l.buffers.writer) l.self l.reading.next l.to (drop l.place-index l.placed);
  reach : reach_behind_all
      (reach_of l.buffers.writer) l.self l.reading.next l.to (drop l.place-index l.placed)
      ≡ reach_behind_all (reach_of l.fn.buffers.writer) l.self l.fn.from l.to l.placed;
  lays : LaysUpTo
      l.self.pass.input.now l.self.pass.output.now (planned_frames l.self l.fn.from l.to l.placed)
      (planned_frames l.self l.reading.next l.to (drop l.place-index l.placed))
      (writing_in l.fn.buffers) (writing_in l.buffers)
      (g.D.Folder.seen l.fn.folder).files (g.D.Folder.seen l.folder).files;
  counts : (g.D.Folder.seen l.folder).counts ≡ (g.D.Folder.seen l.fn.folder).counts;
}
