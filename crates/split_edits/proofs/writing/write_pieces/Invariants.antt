-- The pieces before are whole.
use Rattle.std.proofs.Common.{take, [], ◌≡◌}
use Rattle.outside.specs.Feed.{IsFedFrom}
use Rattle.split_edits.proofs.OutputsLemmas.{Wrote}
use Rattle.sync_survey.specs.Faults.{survey_view}
use Rattle.split_edits.proofs.writing.write_pieces.Given as goal

abbrev pub invariant-loop-piece : goal.invariant-loop-piece
invariant-loop-piece g l = record {
  wrote : Wrote (survey_view l.survey) l.input (take l.piece-index l.pieces)
      (g.D.Folder.seen l.fn.folder).files (g.D.Folder.seen l.folder).files;
  place : l.place ≡ l.piece-index;
  fed : IsFedFrom l.buffers.feed (g.D.Folder.seen l.folder).files l.input;
  unsent : l.buffers.waiting ≡ [];
  counts : (g.D.Folder.seen l.folder).counts ≡ (g.D.Folder.seen l.fn.folder).counts;
}
