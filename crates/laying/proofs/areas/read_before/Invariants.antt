-- The areas before this frame were read.
use Rattle.std.proofs.Common.{◌-◌, ◌≡◌, ◌≤◌}
use Rattle.laying.specs.Passing.{IsWindowOverLast}
use Rattle.laying.proofs.areas.read_before.Given as goal

abbrev pub invariant-loop-at : goal.invariant-loop-at
invariant-loop-at g l = record {
  early : l.at ≤ l.i;
  over : IsWindowOverLast l.window (g.S.AreaSource.way l.source).input
      (g.D.Folder.seen l.folder).files (g.S.AreaSource.fields l.source) l.first l.at;
  ready : g.S.AreaSource.CanRead l.source (g.D.Folder.seen l.folder).files l.buffer;
  files : (g.D.Folder.seen l.folder).files ≡ (g.D.Folder.seen l.fn.folder).files;
  counts : (g.D.Folder.seen l.folder).counts ≡ (g.D.Folder.seen l.fn.folder).counts;
}

abbrev pub decreases-loop-at : goal.decreases-loop-at
decreases-loop-at g l = l.i - l.at
