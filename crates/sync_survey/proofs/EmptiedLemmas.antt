-- With its lost frames as frames without main data, a survey is laid out like that of a file
-- without fault; so is one whose head was set apart.
use Rattle.std.proofs.Common.{ap, ap₂, arith, Bool, cond, false, length, List, map, None, Option}
use Rattle.std.proofs.Common.{option_map, refl, slice_get, Some, subst, suc, sum_by, sym, take}
use Rattle.std.proofs.Common.{true, zero, ℕ, [], ◌+◌, ◌||◌, ◌∙◌, ◌∷◌, ◌≡◌, ◌≤◌}
use Rattle.std.proofs.lemmas.{Bool.{and_right, le-ltb}, List.{length-map, take-map}}
use Rattle.std.proofs.lemmas.List.{FromFn.length-enumerate_from, Sums.sum_by-cons}
use Rattle.std.{proofs.lemmas.Option.slice_get-map, specs.List.enumerate_from}
use Rattle.frame_header.specs.{Fields.{ClassFields, IsHeader}, Tables.{class_of, length_of}}
use Rattle.side_info.proofs.SideLemmas.{SideFits-no_side}
use Rattle.side_info.specs.Side.{no_side, payload_bits, payload_bytes, SideFits}
use Rattle.sync_survey.proofs.ApartLemmas.{area-more, place-apart, placed-apart, sound-by, Stands}
use Rattle.sync_survey.proofs.{ApartLemmas.stands_by, SurveyPartsLemmas.data-none_well}
use Rattle.sync_survey.specs.Faults.{data_faults, SurveyFields}
use Rattle.sync_survey.specs.HeadApart.{apart_row, apart_rows, emptied_row, emptied_survey}
use Rattle.sync_survey.specs.HeadApart.{head_apart, rows_set_apart}
use Rattle.sync_survey.specs.MainData.{data_end_after, data_end_before, end_of_data, head_area}
use Rattle.sync_survey.specs.{MainData.{is_silent, lacks_data, own_area, place}, Row.Row}
use Rattle.sync_survey.specs.Survey.{AreWellPlaced, FramesAreLaid, IsSurveyLaidOut, IsWellPlaced}
use Rattle.sync_survey.specs.declared.places.Head.{Head}

-- ---- one frame

abbrev pub empty_row : Row → Row
empty_row r = record r { side = no_side; lost = false }

-- an empty frame has the header of the frame
pub header_by : (b : Bool) (r : Row) → (cond b (empty_row r) r).header ≡ r.header
header_by b r = grind arith

-- a lost frame becomes an empty one
pub emptied_true : (r : Row) → r.lost ≡ true → emptied_row r ≡ empty_row r
emptied_true r is = ap (λ b. cond b (empty_row r) r) is

-- any other frame is unchanged
pub emptied_false : {r : Row} → r.lost ≡ false → emptied_row r ≡ r
emptied_false {r} is = ap (λ b. cond b (empty_row r) r) is

-- the empty side information has no bits of main data
pub no_bits : payload_bits no_side ≡ 0
unfolding payload_bits
no_bits = refl

-- the empty side information has no bytes of main data
pub no_bytes : payload_bytes no_side ≡ 0
unfolding payload_bytes payload_bits
no_bytes = refl

-- A frame among frames that may be lost. Its header is of the standard and of the class, and its
-- side fields are within their bits. The main data that are kept before it end before its own area.
-- If it isn't lost, its main data begin after them and end within that area. The main data that are
-- kept after it end no further on than `behind`.
pub record IsKept (class : ClassFields) (place ended behind : ℕ) (r : Row) : Type 0 where
  pub known : IsHeader r.header
  pub class_is : class_of r.header ≡ class
  pub fits : SideFits class r.side
  pub before : ended ≤ place
  pub stands : r.lost ≡ false → Stands place ended r
  pub goes : cond (r.lost || is_silent r) ended (end_of_data place r) ≤ behind

-- What holds for it as an empty frame if it is lost, if the main data before it end no further on
-- than those that were kept.
module _ {class : ClassFields} {at ended behind other : ℕ} {r : Row}
    (kept : IsKept class at ended behind r) (less : other ≤ ended) where
  stands_emptied_by : {lost : Bool} → r.lost ≡ lost → Stands at other (emptied_row r)
  stands_emptied_by is = grind (arith, emptied_true, no_bytes, emptied_false)

  stands_emptied : Stands at other (emptied_row r)
  stands_emptied = stands_emptied_by refl

  none_lost : lacks_data at other (emptied_row r) ≡ false
  none_lost = grind (arith, and_right, le-ltb)

  kept_by : {lost : Bool} → r.lost ≡ lost → (emptied_row r).lost ≡ false
  kept_by is = grind arith

  unmarked : (emptied_row r).lost ≡ lacks_data at other (emptied_row r)
  unmarked = kept_by refl ∙ sym none_lost

  goes_by : {silent lost : Bool} → is_silent r ≡ silent → r.lost ≡ lost
      → cond (lost || silent) ended (end_of_data at r) ≤ behind
      → cond (is_silent (emptied_row r) || false) other (end_of_data at (emptied_row r)) ≤ behind
  goes_by is h le = grind (arith, emptied_true, no_bits, emptied_false)

  goes : data_end_after at other (Some (emptied_row r)) ≤ behind
  goes = grind (arith, none_lost, goes_by)

-- the side information of a frame still fits, whether or not the frame was emptied
pub fits_by : (class : ClassFields) (r : Row) (lost : Bool) → r.lost ≡ lost → SideFits class r.side
    → SideFits class (emptied_row r).side
fits_by class r lost is fits = grind arith

-- a frame after the change was one before it
pub some_row : {o : Option Row} {q : Row} → option_map emptied_row o ≡ Some q
    → (r : Row) × (o ≡ Some r) × (emptied_row r ≡ q)
some_row e = grind arith

-- ---- all frames

-- the sum of all areas is unchanged
pub areas_same : (rows : List Row) → sum_by (λ (q : Row). own_area q.header) (map emptied_row rows)
    ≡ sum_by (λ (q : Row). own_area q.header) rows
areas_same [] = refl
areas_same (r ∷ rows) =
    let area = λ (q : Row). own_area q.header in
    sum_by-cons area (emptied_row r) (map emptied_row rows) ∙ ap₂ (λ h n. own_area h + n)
    (header_by r.lost r) (areas_same rows) ∙ sym (sum_by-cons area r rows)

-- the place of each frame's main data is the same with empty frames
pub place-same : (head : Option Head) (rows : List Row) (i : ℕ)
    → place head (map emptied_row rows) i ≡ place head rows i
unfolding place
place-same head rows i = grind (arith, take-map emptied_row i rows, areas_same (take i rows))

earlier : (rows : List Row) (i : ℕ) {r : Row} → slice_get rows (suc i) ≡ Some r
    → (q : Row) × (slice_get rows i ≡ Some q)
earlier [] i found = absurd cc
earlier (x ∷ rows) zero found = (x, refl)
earlier (x ∷ rows) (suc i) {r} found = earlier rows i found

-- Frames each of which is kept, given where the main data that are kept before it end.
module _ (head : Option Head) {class : ClassFields} (rows : List Row) {ended : ℕ → ℕ}
    (kept : (i : ℕ) (r : Row) → slice_get rows i ≡ Some r
    → IsKept class (place head rows i) (ended i) (ended (suc i)) r) where
  abbrev other : ℕ → ℕ
  other i = data_end_before head (map emptied_row rows) i

  less_at : (i : ℕ) (r : Row) → slice_get rows i ≡ Some r → other i ≤ ended i
  unfolding data_end_before
  less_at zero r found = omega arith
  less_at (suc i) r found =
      let own = earlier rows i found in
      subst (λ n. data_end_after n (other i) (slice_get (map emptied_row rows) i) ≤ ended (suc i))
      (sym (place-same head rows i))
      (subst (λ o. data_end_after (place head rows i) (other i) o ≤ ended (suc i))
      (sym (slice_get-map emptied_row rows i ∙ ap (option_map emptied_row) own.1))
      (goes
      (kept i own.0 own.1) (less_at i own.0 own.1)))

  placed_at : (i : ℕ) (r : Row) → slice_get rows i ≡ Some r
      → IsWellPlaced head class (map emptied_row rows) i (emptied_row r)
  placed_at i r found =
      let is = kept i r found in
      let less = less_at i r found in
      let at = place head rows i in
      record {
        known = subst IsHeader (sym (header_by r.lost r)) is.known;
        class_is = ap class_of (header_by r.lost r) ∙ is.class_is;
        fits = fits_by class r r.lost refl is.fits;
        mark = grind (arith, unmarked, place-same);
        sound = ap (λ n. data_faults n (other i) (emptied_row r)) (place-same head rows i)
            ∙ sound-by at (other i) (emptied_row r)
            (lacks_data at (other i) (emptied_row r)) refl
            (λ none. stands_emptied is less);
      }

  -- with lost frames as empty ones they are well placed
  pub placed-kept : AreWellPlaced head class (map emptied_row rows)
  placed-kept i q found =
      let own = some_row (sym (slice_get-map emptied_row rows i) ∙ found) in
      subst (IsWellPlaced head class (map emptied_row rows) i) own.2 (placed_at i own.0 own.1)

-- Frames that are well placed without a head.
module _ (head : Option Head) {class : ClassFields} {rows : List Row}
    (placed : AreWellPlaced None class rows) where
  abbrev at : ℕ → ℕ
  at i = place None rows i

  abbrev ended : ℕ → ℕ
  ended i = data_end_before None rows i

  abbrev more : ℕ
  more = head_area head

  stands_at : (i : ℕ) {r : Row} → slice_get rows i ≡ Some r → r.lost ≡ false
      → Stands (at i) (ended i) r
  stands_at i {r} found kept = stands_by
      (data-none_well (placed i r found).sound
      (sym (placed i r found).mark ∙ kept))

  -- where the main data end after the frame, with `more` bytes before the first area and without
  -- them
  ends_by : {at ended : ℕ} {r : Row} (silent : Bool) {lost : Bool} → ended ≤ at
      → (lost ≡ false → Stands at ended r)
      → (cond (lost || silent) (more + ended) (end_of_data (more + at) r)
      ≤ more + cond (silent || lost) ended (end_of_data at r))
      × (cond (silent || lost) ended (end_of_data at r) ≤ at + own_area r.header)
  ends_by silent before well = grind arith

  ends_at : (i : ℕ) {r : Row} → slice_get rows i ≡ Some r → ended i ≤ at i
      → (cond (r.lost || is_silent r) (more + ended i) (end_of_data (more + at i) r)
      ≤ more + ended (suc i)) × (ended (suc i) ≤ at (suc i))
  unfolding data_end_before
  ends_at i found before = grind (arith, ends_by, before, stands_at, area-more)

  before_at : (i : ℕ) {r : Row} → slice_get rows i ≡ Some r → ended i ≤ at i
  unfolding data_end_before
  before_at zero found = omega arith
  before_at (suc i) {r} found = let own = earlier rows i found in
      (ends_at i own.1 (before_at i own.1)).1

  kept_at : (i : ℕ) {r : Row} → slice_get rows i ≡ Some r
      → IsKept class (more + at i) (more + ended i) (more + ended (suc i)) r
  kept_at i {r} found =
      let is = placed i r found in
      let before = before_at i found in
      record {
        known = is.known;
        class_is = is.class_is;
        fits = is.fits;
        before = omega (arith, before);
        stands = grind (arith, stands_at);
        goes = (ends_at i found before).0;
      }

  -- with lost frames as empty ones, the frames are well placed with a head too
  pub placed-emptied : AreWellPlaced head class (map emptied_row rows)
  placed-emptied = placed-kept head rows (λ i r found.
      subst (λ n. IsKept class n (more + ended i) (more + ended (suc i)) r)
      (sym (place-apart head rows i)) (kept_at i found))

-- ---- the survey

laid_one : {from : ℕ} (to : ℕ) (r : Row) (rows : List Row) (b : Bool) → from ≤ r.offset
    → SideFits (class_of r.header) r.side
    → FramesAreLaid (r.offset + length_of (class_of r.header) r.header.slot) rows to
    → FramesAreLaid from (cond b (empty_row r) r ∷ rows) to
laid_one to r rows b low fits rest = grind (arith, SideFits-no_side (class_of r.header))

-- emptying lost frames leaves frames laid out
pub laid_emptied : (from to : ℕ) (rows : List Row) → FramesAreLaid from rows to
    → FramesAreLaid from (map emptied_row rows) to
laid_emptied from to [] laid = laid
laid_emptied from to (r ∷ rows) laid =
    laid_one to r (map emptied_row rows) r.lost laid.0 laid.1
    (laid_emptied (r.offset + length_of (class_of r.header) r.header.slot) to rows laid.2)

laid_from : (all : List Row) (n from to : ℕ) (rows : List Row) → FramesAreLaid from rows to
    → FramesAreLaid from (map (λ (p : ℕ × Row). apart_row all p.0 p.1) (enumerate_from n rows)) to
laid_from all n from to [] laid = laid
laid_from all n from to (r ∷ rows) laid =
    grind (
      arith,
      laid_from all (n + 1) (r.offset + length_of (class_of r.header) r.header.slot) to
          rows laid.2,
    )

laid_apart : (head : Option Head) (from to : ℕ) (rows : List Row) → FramesAreLaid from rows to
    → FramesAreLaid from (rows_set_apart head rows) to
unfolding apart_rows
laid_apart None from to rows laid = laid
laid_apart (Some head) from to rows laid = laid_from rows 0 from to rows laid

-- setting the head apart leaves the number of frames
pub length_apart : (head : Option Head) (rows : List Row)
    → length (rows_set_apart head rows) ≡ length rows
unfolding apart_rows
length_apart head rows = grind (arith, length-map, length-enumerate_from)

-- with the head set apart and lost frames emptied, a survey is still laid out
pub apart-laid : (s : SurveyFields) → IsSurveyLaidOut s
    → IsSurveyLaidOut (emptied_survey (head_apart s))
apart-laid s laid =
    search (arith, length-map, length_apart, laid_emptied, laid_apart, placed-emptied, placed-apart)
