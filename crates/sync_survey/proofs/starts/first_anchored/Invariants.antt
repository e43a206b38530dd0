-- There is no anchored frame at an earlier offset.
use Rattle.std.proofs.Common.{List, None, ℕ, ◌<◌, ◌≡◌, ◌≤◌}
use Rattle.outside.specs.Files.{Holds}
use Rattle.sync_survey.{proofs.FoldersLemmas.HasRead, specs.Start.anchored_frame}
use Rattle.sync_survey.proofs.starts.first_anchored.Given as goal

abbrev pub invariant-loop-at : goal.invariant-loop-at
invariant-loop-at g l = record {
  none : (bytes : List ℕ) → Holds (g.D.Folder.seen l.initial.folder).files l.name bytes
      → (earlier : ℕ) → l.from ≤ earlier → earlier < l.at → anchored_frame bytes earlier ≡ None;
  read : HasRead l.feed l.name (g.D.Folder.seen l.initial.folder).files (g.D.Folder.seen
      l.folder).files (g.D.Folder.seen l.initial.folder).counts (g.D.Folder.seen l.folder).counts;
}
