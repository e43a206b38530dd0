-- Frames that are lost when the head is set apart. In a file without fault these are the frames
-- whose main data begin before the areas of the frames before them, not counting the head's; all
-- others have their main data in these areas.
use Rattle.std.proofs.Common.{ap, ap₂, arith, Bool, cond, false, List, map, None, Option, refl}
use Rattle.std.proofs.Common.{slice_get, Some, subst, suc, sum_by, sym, take, true, zero, ℕ, []}
use Rattle.std.proofs.Common.{◌+◌, ◌-◌, ◌<◌, ◌==◌, ◌||◌, ◌∙◌, ◌∷◌, ◌≡◌, ◌≤◌}
use Rattle.std.proofs.lemmas.{Bool.{and_right, le-ltb, ltb-true}, List.Sums.sum_by-cons}
use Rattle.std.specs.List.{enumerate_from}
use Rattle.frame_header.specs.Fields.{ClassFields}
use Rattle.side_info.specs.Side.{payload_bytes}
use Rattle.sync_survey.proofs.LostFrameLemmas.{none-empty}
use Rattle.sync_survey.proofs.PlacedRowLemmas.{end-marked_rows, found-marked_rows, from_some}
use Rattle.sync_survey.proofs.PlacedRowLemmas.{place-marked_rows, placed_by}
use Rattle.sync_survey.proofs.SurveyPartsLemmas.{data-none_well, StandWell}
use Rattle.sync_survey.specs.{Faults.data_faults, HeadApart.{apart_row, apart_rows, rows_set_apart}}
use Rattle.sync_survey.specs.Laws.{AreSilentOrLost}
use Rattle.sync_survey.specs.MainData.{data_end_after, data_end_before, end_of_data, head_area}
use Rattle.sync_survey.specs.MainData.{is_lost, is_silent, lacks_data, marked_row, marked_rows}
use Rattle.sync_survey.specs.{MainData.{own_area, place, points_too_far}, Row.Row}
use Rattle.sync_survey.specs.{Survey.{AreWellPlaced, IsWellPlaced}, declared.places.Head.Head}

-- ---- one frame

record Lacks (place ended : ℕ) (r : Row) : Type 0 where
  none : ended ≡ 0
  far : place < r.side.main_data_begin

lacks_parts : {place ended : ℕ} {r : Row} → lacks_data place ended r ≡ true → Lacks place ended r
lacks_parts is = grind arith

-- the main data of a frame begin after those before them, and end within its own area
pub record Stands (place ended : ℕ) (r : Row) : Type 0 where
  pub begins : r.side.main_data_begin ≤ place
  pub apart : ended ≤ place - r.side.main_data_begin
  pub within : (place - r.side.main_data_begin) + payload_bytes r.side ≤ place + own_area r.header

-- main data that are where they may be begin after those before them, and end within the own area
pub stands_by : {place ended : ℕ} {r : Row} → StandWell place ended r → Stands place ended r
stands_by well = grind arith

-- if a frame that doesn't lack data has its main data where they may be, they have no fault
pub sound-by : (at other : ℕ) (r : Row) (lost : Bool) → lacks_data at other r ≡ lost
    → (lost ≡ false → Stands at other r) → data_faults at other r ≡ []
sound-by at other r lost is stands = grind arith

-- ---- areas

area_more : (xs : List Row) (i : ℕ) {r : Row} → slice_get xs i ≡ Some r
    → sum_by (λ (q : Row). own_area q.header) (take (suc i) xs)
    ≡ sum_by (λ (q : Row). own_area q.header) (take i xs) + own_area r.header
area_more [] i is = absurd cc
area_more (x ∷ xs) zero is = grind arith
area_more (x ∷ xs) (suc i) {r} is = omega (arith, sum_by, sum_by-cons, area_more xs i is)

-- the place after a frame is further on by its own area
pub area-more : (rows : List Row) (i : ℕ) {r : Row} → slice_get rows i ≡ Some r
    → place None rows (suc i) ≡ place None rows i + own_area r.header
unfolding place
area-more rows i {r} is = omega (arith, area_more rows i is)

-- with the head, the place is further on by the head's area
pub place-apart : (head : Option Head) (rows : List Row) (i : ℕ)
    → place head rows i ≡ head_area head + place None rows i
unfolding place
place-apart head rows i = omega arith

-- ---- with the head and without it

-- What holds with the head, `area` bytes before the first area, and without it. `ended` and `other`
-- are where the main data end before the frame, with it and without it; without the head's area
-- they end no further on.
module _ (area at : ℕ) {ended other : ℕ} {r : Row} (less : other ≤ ended - area)
    (well : lacks_data (area + at) ended r ≡ false → Stands (area + at) ended r) where
  far_lacks_by : {lost : Bool} → lacks_data (area + at) ended r ≡ lost → at < r.side.main_data_begin
      → lacks_data at other r ≡ true
  far_lacks_by is far = grind arith

  -- a frame whose main data begin before the areas without the head's is lost without it
  far_lacks : at < r.side.main_data_begin → lacks_data at other r ≡ true
  far_lacks = far_lacks_by refl

  near_by : {far : Bool} → points_too_far at r ≡ far → lacks_data at other r ≡ false
      → r.side.main_data_begin ≤ at
  near_by is lost = grind arith

  near : lacks_data at other r ≡ false → r.side.main_data_begin ≤ at
  near = near_by refl

  stands_apart_by : {lost : Bool} → lacks_data (area + at) ended r ≡ lost
      → lacks_data at other r ≡ false → Stands at other r
  stands_apart_by is kept = grind arith

  stands_apart : lacks_data at other r ≡ false → Stands at other r
  stands_apart = stands_apart_by refl

  less_by : {silent lost lost_apart : Bool} → is_silent r ≡ silent
      → lacks_data (area + at) ended r ≡ lost → lacks_data at other r ≡ lost_apart
      → cond (silent || lost_apart) other (end_of_data at r)
      ≤ cond (silent || lost) ended (end_of_data (area + at) r) - area
  less_by h is apart = grind arith

  less_behind : data_end_after at other (Some r) ≤ data_end_after (area + at) ended (Some r) - area
  less_behind = grind (arith, less_by)

-- ---- all frames

module _ {head : Option Head} {class : ClassFields} {rows : List Row}
    (placed : AreWellPlaced head class rows) where
  abbrev area : ℕ
  area = head_area head

  abbrev at : ℕ → ℕ
  at i = place None rows i

  stands_at : (i : ℕ) {r : Row} → slice_get rows i ≡ Some r
      → lacks_data (area + at i) (data_end_before head rows i) r ≡ false
      → Stands (area + at i) (data_end_before head rows i) r
  stands_at i found kept = grind (arith, place-apart head rows i, stands_by, data-none_well)

  less_next : (i : ℕ) {o : Option Row} → slice_get rows i ≡ o → data_end_before None rows i
      ≤ data_end_before head rows i - area → data_end_after (at i) (data_end_before None rows i) o
      ≤ data_end_after (area + at i) (data_end_before head rows i) o - area
  less_next i found less = grind (arith, less_behind, stands_at)

  -- without the head, the main data end no further on, not counting its area
  less_at : (i : ℕ) → data_end_before None rows i ≤ data_end_before head rows i - area
  unfolding data_end_before
  less_at zero = omega arith
  less_at (suc i) = grind (arith, place-apart, less_next, less_at i)

  lost_far : (i : ℕ) {r : Row} → slice_get rows i ≡ Some r → at i < r.side.main_data_begin
      → is_lost None rows i r ≡ true
  lost_far i found far = grind (arith, far_lacks, less_at, stands_at)

  -- a frame whose main data begin too far back is lost when the head is set apart
  pub apart-lost : (i : ℕ) {r : Row} → slice_get rows i ≡ Some r → points_too_far (at i) r ≡ true
      → is_lost None rows i r ≡ true
  apart-lost i {r} found far = lost_far i found (ltb-true (at i) r.side.main_data_begin far)

  -- a frame that is lost is lost without the head too
  or_same : (i : ℕ) {r : Row} → slice_get rows i ≡ Some r → (lost : Bool) → r.lost ≡ lost
      → (lost || is_lost None rows i r) ≡ is_lost None rows i r
  or_same i {r} found true is =
      let had =
      lacks_parts {place = place head rows i} {ended = data_end_before head rows i} {r = r}
      (sym (placed i r found).mark ∙ is) in
      sym (lost_far i {r = r} found (omega (arith, had.far, place-apart head rows i)))
  or_same i found false is = refl

  placed_apart : {i : ℕ} {r : Row} → slice_get rows i ≡ Some r
      → IsWellPlaced None class (marked_rows None rows) i (marked_row None rows i r)
  placed_apart {i} {r} found =
      let is = placed i r found in
      let ended = data_end_before None rows i in
      placed_by
      (sym (place-marked_rows None rows i))
      (sym (end-marked_rows None rows i)) is.known is.class_is is.fits refl
      (sound-by (at i) ended r (lacks_data (at i) ended r) refl
      (λ kept. stands_apart area (at i) (less_at i) (stands_at i found) kept))

  placed-marked_rows : AreWellPlaced None class (marked_rows None rows)
  placed-marked_rows i q found = grind (arith, from_some, found-marked_rows, placed_apart)

  -- ---- as the frames are marked

  apart_same : (n : ℕ) (xs : List Row)
      → ((i : ℕ) (r : Row) → slice_get xs i ≡ Some r → slice_get rows (n + i) ≡ Some r)
      → map (λ (p : ℕ × Row). apart_row rows p.0 p.1) (enumerate_from n xs)
      ≡ map (λ (p : ℕ × Row). marked_row None rows p.0 p.1) (enumerate_from n xs)
  apart_same n [] stand = refl
  apart_same n (x ∷ xs) stand =
      let here : slice_get rows n ≡ Some x =
      ap (slice_get rows) (omega arith) ∙ stand zero x refl in
      ap₂ (λ (b : Bool) (l : List Row). record x { lost = b } ∷ l) (or_same n here x.lost refl)
      (apart_same (n + 1) xs (λ i r is. ap (slice_get rows) (omega arith) ∙ stand (suc i) r is))

  apart_rows-marked_rows : apart_rows rows ≡ marked_rows None rows
  unfolding apart_rows marked_rows
  apart_rows-marked_rows = apart_same 0 rows (λ i r is. ap (slice_get rows) (omega arith) ∙ is)

-- frames that are set apart are well placed without a head
pub placed-apart : (head : Option Head) {class : ClassFields} {rows : List Row}
    → AreWellPlaced head class rows → AreWellPlaced None class (rows_set_apart head rows)
placed-apart None placed = placed
placed-apart (Some head) {class} {rows} placed = subst (AreWellPlaced None class)
    (sym (apart_rows-marked_rows placed))
    (placed-marked_rows placed)

-- every frame before a frame that is lost without the head is silent or lost in this sense
pub apart-leads : (head : Option Head) (class : ClassFields) (rows : List Row)
    → AreWellPlaced head class rows → (i : ℕ) (r : Row) → slice_get rows i ≡ Some r
    → points_too_far (place None rows i) r ≡ true
    → (is_lost None rows i r ≡ true) × AreSilentOrLost None rows i
apart-leads head class rows placed i r found far =
    grind (arith, apart-lost placed i found far, far, none-empty, lacks_parts)

-- ---- if no frame is lost

near_stays : (rows : List Row) (n : ℕ) (xs : List Row) → ((i : ℕ) (r : Row)
    → slice_get xs i ≡ Some r → r.side.main_data_begin ≤ place None rows (n + i))
    → map (λ (p : ℕ × Row). apart_row rows p.0 p.1) (enumerate_from n xs) ≡ xs
near_stays rows n [] near = refl
near_stays rows n (x ∷ xs) near =
    let here : x.side.main_data_begin ≤ place None rows n =
    omega (arith, near zero x refl, ap (place None rows) (the_same n)) in
    ap₂ (λ (b : Bool) (l : List Row). record x { lost = b } ∷ l)
    (ap (λ b. x.lost || b)
    (and_right (data_end_before None rows n == 0) (points_too_far (place None rows
    n) x) (le-ltb (place None rows n) x.side.main_data_begin here)) ∙ or_false x.lost)
    (near_stays rows (n + 1) xs (λ i r is. subst (λ m. r.side.main_data_begin ≤ place None rows m)
    (next_same n i) (near (suc i) r is)))
  where
    the_same : (n : ℕ) → n + 0 ≡ n
    the_same n = omega arith

    next_same : (n i : ℕ) → n + suc i ≡ (n + 1) + i
    next_same n i = omega arith

    or_false : (b : Bool) → (b || false) ≡ b
    or_false b = grind arith

near_set : (head : Option Head) {rows : List Row} → apart_rows rows ≡ rows
    → rows_set_apart head rows ≡ rows
near_set head is = grind arith

-- if all main data begin within the areas without the head's, all frames are unchanged
pub near-same : (head : Option Head) {rows : List Row}
    → ((i : ℕ) (r : Row) → slice_get rows i ≡ Some r → r.side.main_data_begin ≤ place None rows i)
    → rows_set_apart head rows ≡ rows
unfolding apart_rows
near-same head {rows} near = near_set head (near_stays rows 0 rows
    (λ i r is. omega (arith, near i r is, ap (place None rows) (sym_zero i))))
  where
    sym_zero : (i : ℕ) → 0 + i ≡ i
    sym_zero i = omega arith
