-- The frames so far were given to the writer.
use Rattle.std.proofs.Common.{◌≡◌}
use Rattle.drill.specs.{Drill.drill_frames, Making.{drill_writing, HasMade, IsBeforeFrame}}
use Rattle.drill.proofs.making.DrillWriter.frames.Given as goal

abbrev pub invariant-loop-i : goal.invariant-loop-i
invariant-loop-i g l = record {
  next : IsBeforeFrame l.fn.self.draws.state l._i l.self;
  made : HasMade l.name (drill_writing l.self) (drill_frames l.fn.self.draws.state l._i)
      (g.D.Folder.seen l.fn.folder).files (g.D.Folder.seen l.folder).files;
  counts : (g.D.Folder.seen l.folder).counts ≡ (g.D.Folder.seen l.fn.folder).counts;
}
