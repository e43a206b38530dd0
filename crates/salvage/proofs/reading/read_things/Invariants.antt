-- The file was read up to the offset that was reached.
use Rattle.std.proofs.Common.{◌-◌}
use Rattle.salvage.specs.Progress.{IsDamagedReading}
use Rattle.sync_survey.proofs.FoldersLemmas.{HasRead}
use Rattle.salvage.proofs.reading.read_things.Given as goal

abbrev pub invariant-loop-found : goal.invariant-loop-found
invariant-loop-found g l = record {
  reading : IsDamagedReading (g.D.Folder.seen l.initial.folder).files l.name l.begun l.found;
  read : HasRead l.feed l.name (g.D.Folder.seen l.initial.folder).files (g.D.Folder.seen
      l.folder).files (g.D.Folder.seen l.initial.folder).counts (g.D.Folder.seen l.folder).counts;
}

abbrev pub decreases-loop-found : goal.decreases-loop-found
decreases-loop-found g l = l.begun.size - l.found.at
