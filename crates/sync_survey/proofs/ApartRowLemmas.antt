-- The loops that mark the frames that are lost without a head, and that make lost frames empty
-- ones.
use Rattle.std.proofs.Common.{ap, append_assoc, ap₂, arith, Bool, cond, drop, false, get_or, length}
use Rattle.std.proofs.Common.{List, ltb, map, min, None, refl, slice_get, Some, suc, sym, take}
use Rattle.std.proofs.Common.{true, zero, ℕ, [], ◌&&◌, ◌++◌, ◌+◌, ◌-◌, ◌<◌, ◌==◌, ◌^◌, ◌||◌, ◌∙◌}
use Rattle.std.proofs.{Common.{◌∷◌, ◌≡◌, ◌≤◌}, Math.ListN.set}
use Rattle.std.proofs.Math.Nat.{min-eq_left, min-eq_right, min-le_left}
use Rattle.std.proofs.lemmas.Bool.{eqb-true, ltb-false, ltb-true}
use Rattle.std.proofs.lemmas.List.{append-nil, drop_all, drop_more, length-map, length-take-le}
use Rattle.std.proofs.lemmas.List.{map-append, set_at, take_all, take_more}
use Rattle.std.{proofs.lemmas.Option.slice_get-get_or, specs.List.enumerate_from}
use Rattle.sync_survey.proofs.ApartLemmas.{area-more}
use Rattle.sync_survey.proofs.LostFrameLemmas.{empty-none, loud-end, none-empty}
use Rattle.sync_survey.specs.HeadApart.{apart_row, apart_rows, emptied_row}
use Rattle.sync_survey.specs.MainData.{data_end_after, data_end_before, end_of_data, is_lost}
use Rattle.sync_survey.specs.{MainData.{is_silent, own_area, place, points_too_far}, Row.Row}

-- ---- one frame is written

at_end : (front : List Row) (x : Row) (rest : List Row) (i : ℕ) (d : Row) → length front ≡ i
    → get_or (front ++ (x ∷ rest)) i d ≡ x
at_end [] x rest zero d e = refl
at_end (y ∷ front) x rest (suc i) d e = at_end front x rest i d (omega (arith, e))
at_end _ x rest _ d e = absurd (omega (arith, e))

module _ (rows : List Row) {now : List Row} (front : List Row) {i : ℕ} (d : Row)
    (size : length front ≡ i)
    (within : i < length rows) (is : now ≡ front ++ drop i rows) where
  split : now ≡ front ++ (get_or rows i d ∷ drop (i + 1) rows)
  split = is ∙ ap (λ t. front ++ t) (drop_more rows i d within)

  -- the frame at i is as it was
  pub here-is : get_or now i d ≡ get_or rows i d
  here-is = grind (arith, split, at_end)

  -- writing it is having written one more
  pub written-one : (y : Row) → set now i y ≡ (front ++ y ∷ []) ++ drop (i + 1) rows
  written-one y = grind (arith, set, split, set_at, append_assoc)

-- ---- lost frames become empty ones

-- emptying the frame at i, after those before it, is having emptied one more
pub emptied-step : (rows : List Row) {now : List Row} {i : ℕ} (d : Row) {new : Row}
    → i < length rows → now ≡ map emptied_row (take i rows) ++ drop i rows
    → new ≡ emptied_row (get_or now i d)
    → set now i new ≡ map emptied_row (take (i + 1) rows) ++ drop (i + 1) rows
emptied-step rows {now} {i} d within is one =
    let front = map emptied_row (take i rows) in
    let size : length front ≡ i = grind (arith, length-map, length-take-le) in
    ap (set now i) (one ∙ ap emptied_row (here-is rows front d size within is))
    ∙ written-one rows front d size within is (emptied_row (get_or rows i d))
    ∙ ap (λ t. t ++ drop (i + 1) rows) (sym (map-append emptied_row (take i rows)
    (get_or rows i d ∷ [])) ∙ ap (map emptied_row) (sym (take_more rows i d within)))

-- ---- frames that are lost without a head are marked

module _ (rows : List Row) where
  -- these frames, numbered from n on, marked
  abbrev pub apart_from : ℕ → List Row → List Row
  apart_from n xs = map (λ (p : ℕ × Row). apart_row rows p.0 p.1) (enumerate_from n xs)

  length-apart : (n : ℕ) (xs : List Row) → length (apart_from n xs) ≡ length xs
  length-apart n [] = refl
  length-apart n (x ∷ xs) = ap suc (length-apart (n + 1) xs)

  apart_more : (n i : ℕ) (xs : List Row) (d : Row) → i < length xs → apart_from n (take (suc i) xs)
      ≡ apart_from n (take i xs) ++ apart_row rows (n + i) (get_or xs i d) ∷ []
  apart_more n i [] d lt = absurd (omega (arith, lt))
  apart_more n zero (x ∷ xs) d lt = ap (λ m. apart_row rows m x ∷ []) (omega arith)
  apart_more n (suc i) (x ∷ xs) d lt = grind (arith, apart_more (n + 1) i xs d (omega (arith, lt)))

  apart_split : (n i : ℕ) (xs : List Row)
      → apart_from n xs ≡ apart_from n (take i xs) ++ apart_from (n + i) (drop i xs)
  apart_split n zero xs = ap (λ m. apart_from m xs) (omega arith)
  apart_split n (suc i) [] = refl
  apart_split n (suc i) (x ∷ xs) = grind (arith, apart_split (n + 1) i xs)

  -- ---- from the first frame that has main data and isn't lost

  ended_before : {i j : ℕ} → i ≤ j → data_end_before None rows j ≡ 0
      → data_end_before None rows i ≡ 0
  ended_before le none = grind (arith, empty-none, none-empty, none)

  none_lost_by : {i j : ℕ} (r : Row) → i ≤ j → {zero : Bool}
      → (data_end_before None rows j == 0) ≡ zero → 1 ≤ data_end_before None rows i
      → (zero && points_too_far (place None rows j) r) ≡ false
  none_lost_by r le is some = grind (arith, ended_before, eqb-true)

  none_lost : {i j : ℕ} (r : Row) → i ≤ j → 1 ≤ data_end_before None rows i
      → is_lost None rows j r ≡ false
  none_lost {i} {j} r le some = none_lost_by r le refl some

  or_false : (b : Bool) → (b || false) ≡ b
  or_false b = grind arith

  rest_stays : {i n : ℕ} (xs : List Row) → i ≤ n → 1 ≤ data_end_before None rows i
      → apart_from n xs ≡ xs
  rest_stays [] le some = refl
  rest_stays {i} {n} (x ∷ xs) le some =
      grind (arith, none_lost, or_false, rest_stays {i = i} {n = n + 1} xs (omega (arith, le)) some)

  -- no frame from this one on is lost
  pub apart-stays : (i : ℕ) → 1 ≤ data_end_before None rows i
      → apart_from 0 (take i rows) ++ drop i rows ≡ apart_rows rows
  unfolding apart_rows
  apart-stays i some =
      grind
      (arith, rest_stays {i = i} {n = i} (drop i rows) (omega arith) some, apart_split 0 i rows)

  -- ---- the next frame

  sum_by_min : {n sum : ℕ} → sum ≡ min n (2 ^ 64 - 1) → sum < 65535 → sum ≡ n
  sum_by_min is lt = grind (arith, ltb-true, min-eq_left, ltb-false, min-eq_right)

  -- The frames before frame i are marked, and each of them is silent or lost; `areas` is the sum of
  -- their areas, if no main_data_begin is greater.
  pub record AreMarkedTo (now : List Row) (areas i : ℕ) : Type 0 where
    pub rows_are : now ≡ apart_from 0 (take i rows) ++ drop i rows
    pub none : data_end_before None rows i ≡ 0
    pub few : areas ≤ place None rows i
    pub exact : areas < 65535 → areas ≡ place None rows i

  -- before the first frame none is marked
  pub marked-none : AreMarkedTo rows 0 0
  unfolding data_end_before place
  marked-none = grind arith

  far_by : {areas at begin : ℕ} {far few : Bool} → ltb at begin ≡ far → ltb areas 65535 ≡ few
      → areas ≤ at → (areas < 65535 → areas ≡ at) → begin ≤ 65535 → ltb areas begin ≡ far
  far_by is short le exact near = grind arith

  end_more : (i : ℕ) {r : Row} → slice_get rows i ≡ Some r → data_end_before None rows (suc i)
      ≡ data_end_after (place None rows i) (data_end_before None rows i) (Some r)
  unfolding data_end_before
  end_more i is = ap (data_end_after (place None rows i) (data_end_before None rows i)) is

  module _ {now : List Row} {areas i : ℕ} (d : Row) (to : AreMarkedTo now areas i)
      (within : i < length rows) {new : Row}
      (row_is : new ≡ record (get_or now i d) {
        lost = (get_or now i d).lost || points_too_far areas (get_or now i d);
      })
      (near : (get_or now i d).side.main_data_begin ≤ 65535) where
    abbrev here : Row
    here = get_or rows i d

    front_size : length (apart_from 0 (take i rows)) ≡ i
    front_size = length-apart 0 (take i rows) ∙ length-take-le i rows (omega (arith, within))

    here_same : get_or now i d ≡ here
    here_same = here-is rows (apart_from 0 (take i rows)) d front_size within to.rows_are

    found : slice_get rows i ≡ Some here
    found = slice_get-get_or rows i d within

    far_same : points_too_far areas (get_or now i d) ≡ points_too_far (place None rows i) here
    far_same = grind (arith, far_by, here_same)

    lost_same : is_lost None rows i here ≡ points_too_far (place None rows i) here
    lost_same = ap (λ n. (n == 0) && points_too_far (place None rows i) here) to.none

    rows_next : set now i new ≡ apart_from 0 (take (i + 1) rows) ++ drop (i + 1) rows
    rows_next =
        let zero_more : i ≡ 0 + i = omega arith in
        let one_more : suc i ≡ i + 1 = omega arith in
        ap (set now i) (row_is
        ∙ ap₂ (λ (q : Row) b. record q { lost = q.lost || b }) here_same (far_same ∙ sym lost_same))
        ∙ written-one rows
        (apart_from 0 (take i rows)) d front_size within to.rows_are (apart_row rows i here)
        ∙ ap (λ t. t ++ drop (i + 1) rows)
        (ap (λ m. apart_from 0 (take i rows) ++ apart_row rows m here ∷ []) zero_more
        ∙ sym (apart_more 0 i rows d within) ∙ ap (λ m. apart_from 0 (take m rows)) one_more)

    end_next : data_end_before None rows (i + 1) ≡ cond (is_silent here
        || points_too_far (place None rows i) here) 0 (end_of_data (place None rows i) here)
    end_next = grind (arith, end_more, found, lost_same)

    empty_same : (is_silent (get_or now i d) || points_too_far areas (get_or now i d))
        ≡ (is_silent here || points_too_far (place None rows i) here)
    empty_same = ap₂ (λ (q : Row) b. is_silent q || b) here_same far_same

    -- the frame is silent or lost, and the next one may be lost
    pub marked-next : {sum : ℕ}
        → (is_silent (get_or now i d) || points_too_far areas (get_or now i d)) ≡ true
        → sum ≡ min (areas + own_area (get_or now i d).header) (2 ^ 64 - 1)
        → AreMarkedTo (set now i new) sum (i + 1)
    marked-next empty is =
        grind (
          arith,
          here_same,
          area-more,
          found,
          min-le_left,
          rows_next,
          end_next,
          empty_same,
          sum_by_min,
        )

    loud_end : {silent : Bool} (far : Bool) → is_silent here ≡ silent → (silent || far) ≡ false
        → 1 ≤ cond (silent || far) 0 (end_of_data (place None rows i) here)
    loud_end far is kept = grind (arith, loud-end)

    -- the frame has main data and isn't lost, so no later one is lost
    pub marked-last : (is_silent (get_or now i d) || points_too_far areas (get_or now i d)) ≡ false
        → set now i new ≡ apart_rows rows
    marked-last kept = grind (arith, loud_end, empty_same, rows_next, apart-stays, end_next)

  -- all were marked
  pub marked-all : {now : List Row} {areas i : ℕ} → AreMarkedTo now areas i → length rows ≤ i
      → now ≡ apart_rows rows
  unfolding apart_rows
  marked-all to all = grind (arith, take_all, drop_all, append-nil)
