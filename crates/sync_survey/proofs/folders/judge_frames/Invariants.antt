-- The file was surveyed up to an offset.
use Rattle.std.proofs.Common.{length, List, ℕ, ◌-◌, ◌≤◌}
use Rattle.outside.specs.Files.{Holds}
use Rattle.sync_survey.proofs.{FoldersLemmas.HasRead, ProgressLemmas.IsMarkedTo}
use Rattle.sync_survey.{proofs.StepLemmas.IsLaidTo, specs.Faults.class_from}
use Rattle.sync_survey.proofs.folders.judge_frames.Given as goal

abbrev pub invariant-loop-at : goal.invariant-loop-at
invariant-loop-at g l = record {
  surveyed : (bytes : List ℕ) → Holds (g.D.Folder.seen l.initial.folder).files l.name bytes
      → IsMarkedTo bytes l.start l.head l.allowed l.found.rows.items l.found.pieces.items
      l.found.before.place l.found.before.ended l.at;
  laid : IsLaidTo l.head (class_from l.start) l.start.first.offset l.found l.at;
  few : length l.found.rows.items ≤ l.allowed;
  within : l.at ≤ l.size;
  read : HasRead l.feed l.name (g.D.Folder.seen l.initial.folder).files (g.D.Folder.seen
      l.folder).files (g.D.Folder.seen l.initial.folder).counts (g.D.Folder.seen l.folder).counts;
}

abbrev pub decreases-loop-at : goal.decreases-loop-at
decreases-loop-at g l = l.size - l.at
