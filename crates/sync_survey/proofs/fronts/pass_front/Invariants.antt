-- What was passed so far.
use Rattle.std.proofs.Common.{List, ℕ, ◌-◌, ◌≤◌}
use Rattle.outside.specs.Files.{Holds}
use Rattle.sync_survey.proofs.{FoldersLemmas.HasRead, FrontLemmas.IsPassedTo}
use Rattle.sync_survey.specs.Survey.{BlocksAreLaid}
use Rattle.sync_survey.proofs.fronts.pass_front.Given as goal

abbrev pub invariant-loop-at : goal.invariant-loop-at
invariant-loop-at g l = record {
  passed : (bytes : List ℕ) → Holds (g.D.Folder.seen l.initial.folder).files l.name bytes
      → IsPassedTo bytes l.pieces.items l.at;
  laid : BlocksAreLaid 0 l.pieces.items l.at;
  within : l.at ≤ l.size;
  read : HasRead l.feed l.name (g.D.Folder.seen l.initial.folder).files (g.D.Folder.seen
      l.folder).files (g.D.Folder.seen l.initial.folder).counts (g.D.Folder.seen l.folder).counts;
}

abbrev pub decreases-loop-at : goal.decreases-loop-at
decreases-loop-at g l = l.size - l.at
