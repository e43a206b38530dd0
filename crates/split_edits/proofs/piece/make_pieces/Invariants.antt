-- The pieces up to a place, and the places after it.
use Rattle.std.proofs.Common.{drop, length, List, map, ℕ, ◌≡◌}
use Rattle.split_edits.{proofs.PiecesLemmas.laid_before, specs.Cutting.piece_parts_from}
use Rattle.split_edits.specs.Steps.{ArePieces, IsSplitSource, piece_part}
use Rattle.sync_survey.specs.Faults.{survey_view, SurveyFields}
use Rattle.split_edits.proofs.piece.make_pieces.Given as goal

abbrev pub invariant-loop-to : goal.invariant-loop-to
invariant-loop-to g l = record {
  pieces : ArePieces l.prefix (survey_view l.source.survey) 1 l.pieces.items;
  many : length l.pieces.items ≡ l.to-index;
  number : l.number ≡ l.to-index;
  sound : g.C.Cut.IsSound l.from;
  laid : (file : List ℕ) (s : SurveyFields)
      → IsSplitSource (g.C.Cut.cutting l.cut) g.C.Cut.head l.source file s → laid_before
      (map piece_part l.pieces.items) (piece_parts_from (g.C.Cut.cutting l.cut) file s l.from
      (drop l.to-index l.rest))
      ≡ piece_parts_from (g.C.Cut.cutting l.cut) file s l.initial.from l.rest;
}
