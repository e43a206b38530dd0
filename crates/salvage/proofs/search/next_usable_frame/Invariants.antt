-- There is no usable anchored frame at an earlier offset.
use Rattle.std.proofs.Common.{List, None, ℕ, ◌-◌, ◌<◌, ◌≡◌, ◌≤◌}
use Rattle.outside.specs.Files.{Holds}
use Rattle.salvage.specs.UsableFrames.{usable_frame_at}
use Rattle.sync_survey.proofs.FoldersLemmas.{HasRead}
use Rattle.salvage.proofs.search.next_usable_frame.Given as goal

abbrev pub invariant-loop-at : goal.invariant-loop-at
invariant-loop-at g l = record {
  none : (bytes : List ℕ) → Holds (g.D.Folder.seen l.initial.folder).files l.name bytes
      → (earlier : ℕ) → l.from ≤ earlier → earlier < l.at
      → usable_frame_at bytes l.role earlier ≡ None;
  low : l.from ≤ l.at;
  read : HasRead l.feed l.name (g.D.Folder.seen l.initial.folder).files (g.D.Folder.seen
      l.folder).files (g.D.Folder.seen l.initial.folder).counts (g.D.Folder.seen l.folder).counts;
}

abbrev pub decreases-loop-at : goal.decreases-loop-at
decreases-loop-at g l = l.size - l.at
