-- With its emptied frames as frames without main data, what is read of a damaged file is laid out
-- like a file without fault.
use Rattle.std.proofs.Common.{ap₂, arith, Bool, false, List, map, Option, option_to_list, refl}
use Rattle.std.proofs.Common.{slice_get, Some, subst, suc, sym, zero, ℕ, [], ◌++◌, ◌+◌, ◌∙◌, ◌∷◌}
use Rattle.std.proofs.{Common.◌≡◌, lemmas.List.length-map}
use Rattle.frame_header.specs.{Fields.{ClassFields, IsHeader}, Tables.{class_of, length_of}}
use Rattle.salvage.{proofs.KeptLemmas.sound_within, specs.DamagedFiles.DamagedFields}
use Rattle.salvage.specs.{EmptiedFrames.{emptied_frame, emptied_from}, KeptFrames.end_of_kept}
use Rattle.salvage.specs.Progress.{IsDamagedLaidOut, RowsAreOfClass}
use Rattle.salvage.specs.declared.mended.Emptied.{Emptied}
use Rattle.side_info.specs.Side.{SideFits}
use Rattle.sync_survey.proofs.ChainLemmas.{cons_list}
use Rattle.sync_survey.proofs.EmptiedLemmas.{emptied_false, IsKept, laid_emptied, placed-kept}
use Rattle.sync_survey.specs.{HeadApart.{emptied_row, emptied_survey}, MainData.place, Row.Row}
use Rattle.sync_survey.specs.{Survey.{FramesAreLaid, IsSurveyLaidOut}, declared.places.Head.Head}

-- the side fields of a frame are within their bits
fits_at : (from to : ℕ) (rows : List Row) (i : ℕ) {r : Row} → FramesAreLaid from rows to
    → slice_get rows i ≡ Some r → SideFits (class_of r.header) r.side
fits_at from to [] i laid found = absurd cc
fits_at from to (q ∷ rows) zero {r} laid found = let same : q ≡ r = cc in
    subst (λ (x : Row). SideFits (class_of x.header) x.side) same laid.1
fits_at from to (q ∷ rows) (suc i) {r} laid found =
    fits_at (q.offset + length_of (class_of q.header) q.header.slot) to rows i laid.2 found

-- the header of a frame is of the standard and of the class
class_at : {class : ClassFields} (rows : List Row) (i : ℕ) {r : Row} → RowsAreOfClass class rows
    → slice_get rows i ≡ Some r → IsHeader r.header × (class_of r.header ≡ class)
class_at [] i are found = absurd cc
class_at {class} (q ∷ rows) zero {r} are found = let same : q ≡ r = cc in
    subst (λ (x : Row). IsHeader x.header × (class_of x.header ≡ class)) same (are.0, are.1)
class_at {class} (q ∷ rows) (suc i) {r} are found = class_at rows i are.2 found

module _ {d : DamagedFields} (laid : IsDamagedLaidOut d) where
  abbrev head : Option Head
  head = d.survey.head

  abbrev rows : List Row
  rows = d.survey.frames

  kept_at : (i : ℕ) {r : Row} → slice_get rows i ≡ Some r
      → IsKept d.survey.class (place head rows i) (end_of_kept head rows i)
      (end_of_kept head rows (suc i)) r
  unfolding end_of_kept
  kept_at i {r} found =
      let own = class_at rows i laid.class found in
      let is = laid.kept i r found in
      record {
        known = own.0;
        class_is = own.1;
        fits = grind (arith, fits_at d.survey.first d.survey.length rows i laid.frames found);
        before = is.before;
        stands = grind (arith, sound_within);
        goes = grind arith;
      }

  -- with its emptied frames as frames without main data, what is read is laid out
  pub survey-mended : IsSurveyLaidOut (emptied_survey d.survey)
  survey-mended = record {
    junk = laid.junk;
    first = laid.first;
    head = laid.head;
    some = omega (arith, laid.some, length-map rows emptied_row);
    frames = laid_emptied d.survey.first d.survey.length rows laid.frames;
    blocks = laid.blocks;
    few = laid.long;
    placed = placed-kept head rows kept_at;
  }

-- ---- if none becomes an empty one

none_lost : (number : ℕ) (r : Row) {rest : List Emptied} {b : Bool} → r.lost ≡ b
    → option_to_list (emptied_frame number r) ++ rest ≡ [] → (r.lost ≡ false) × (rest ≡ [])
none_lost number r is e = grind arith

-- if no frame becomes an empty one, all frames are unchanged
pub mended_none : (number : ℕ) (rows : List Row) → emptied_from number rows ≡ []
    → map emptied_row rows ≡ rows
mended_none number [] none = refl
mended_none number (r ∷ rows) none =
    let parts = none_lost number r refl
    (sym (cons_list (emptied_frame number r) (emptied_from (number + 1) rows)) ∙ none) in
    ap₂ (λ (x : Row) xs. x ∷ xs) (emptied_false parts.0) (mended_none (number + 1) rows parts.1)
