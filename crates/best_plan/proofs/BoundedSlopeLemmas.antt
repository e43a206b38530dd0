-- Before a row in which each free byte saves at most one byte of areas,
-- the first area that leaves enough for the frames after it is the best.
use Rattle.std.proofs.Common.{append-nil, append_assoc, arith, drop, get_or, inl, inr, length}
use Rattle.std.proofs.Common.{length-append, List, min, replicate, suc, take, zero, ℕ, ◌++◌, ◌+◌}
use Rattle.std.proofs.{Common.{◌-◌, ◌<◌, ◌^◌, ◌∙◌, ◌≡◌, ◌≤◌}, lemmas.Bool.cases_lt}
use Rattle.std.proofs.lemmas.List.{drop_all, get_or-append-add, get_or-replicate}
use Rattle.std.proofs.lemmas.List.{get_or_append_left, length-replicate, take_all}
use Rattle.best_plan.proofs.{RowLemmas.not-greater, UnitSlopeLemmas.end-rises}
use Rattle.best_plan.specs.Rows.{AppendsRow, area_sum, AreAreasAndSums, AreSums, HasSlopeAtMostOne}
use Rattle.best_plan.specs.Rows.{IsAreaChoice, IsEndAt, IsSum, nothing}
use Rattle.slot_plan.{proofs.AreaLemmas.Ascend, specs.Reserve.free_bytes_behind}

-- `more` further free bytes save at most `more` bytes of areas
near-more : {sums : List ℕ} {least free : ℕ} (more : ℕ) → HasSlopeAtMostOne sums least → least
    ≤ free → free + more < length sums → get_or sums free 0 ≤ get_or sums (free + more) 0 + more
near-more zero near from within = grind arith
near-more {sums} {least} {free} (suc more) near from within =
    grind (arith, near-more more near from (omega (arith, within)))

module _ (window free : ℕ) {bytes least place cost : ℕ} (areas : List ℕ) {later : List ℕ}
    (width : length later ≡ window + 1) (near : HasSlopeAtMostOne later least)
    (ascend : Ascend areas)
    (small : (k : ℕ) → k < place → free + get_or areas k 0 < bytes + least)
    (most : cost ≤ nothing) where
  -- an area before this place leaves too little
  none-before : {k : ℕ} → k < place → bytes ≤ free + get_or areas k 0
      → nothing ≤ get_or later (free_bytes_behind window free bytes (get_or areas k 0)) 0
  none-before before fits = grind (arith, width)

  -- if no area leaves enough, there is no sum
  pub no-choice : {at : ℕ} → length areas ≤ place → cost ≡ nothing
      → IsAreaChoice window free bytes areas later cost at
  no-choice past none = grind (arith, none-before)

  module _ (within : place < length areas) (large : bytes + least ≤ free + get_or areas place 0)
      (is : IsSum window free bytes (get_or areas place 0) later cost) where
    abbrev left : ℕ
    left = free_bytes_behind window free bytes (get_or areas place 0)

    -- a later area saves at most as many bytes as it is larger
    from-place : {k : ℕ} → place ≤ k → k < length areas
        → cost ≤ area_sum window free bytes later (get_or areas k 0)
    from-place {k} from less =
        let more : ℕ = free_bytes_behind window free bytes (get_or areas k 0) in
        let grows = not-greater areas ascend from less in
        elim (cases_lt left least)
        as (λ _. cost ≤ area_sum window free bytes later (get_or areas k 0)) [
          | inl few ↦ grind (arith, width)
          | inr enough ↦
              grind (
                arith,
                near-more (more - left) near enough (omega (
                  arith,
                  width,
                  grows,
                )),
                width,
              )
        ]

    near-choice : IsAreaChoice window free bytes areas later cost place
    near-choice = grind (arith, cases_lt, none-before, from-place)

    -- the first area that leaves enough has the least sum
    pub near-at : {at : ℕ} → at ≡ place → IsAreaChoice window free bytes areas later cost at
    near-at here = grind (arith, near-choice)

-- Areas before a row in which each free byte saves at most one byte
-- of areas, and `wanted`, the free bytes and area that leave enough.
pub record IsBeforeSlope (window bytes least wanted : ℕ) (areas later : List ℕ) : Type 0 where
  pub rows : AreAreasAndSums window areas later
  pub near : HasSlopeAtMostOne later least
  pub most : wanted ≤ bytes + least
  pub whole : wanted < nothing → wanted ≡ bytes + least

module _ {window bytes least wanted : ℕ} {areas later : List ℕ} where
  -- `wanted` is what the area and the least free bytes need, as far as a sum can hold it
  pub before-slope : AreAreasAndSums window areas later → HasSlopeAtMostOne later least
      → wanted ≡ min (bytes + least) (2 ^ 32 - 1)
      → IsBeforeSlope window bytes least wanted areas later
  before-slope rows near is = record {
    rows = rows;
    near = near;
    most = omega (arith, is);
    whole = λ less. omega (arith, is, less);
  }

  -- the first area that leaves enough, at `place`, has the least sum; without one there is none
  near-one : IsBeforeSlope window bytes least wanted areas later → {free : ℕ} → free ≤ window
      → {place : ℕ} → ((k : ℕ) → k < place → free + get_or areas k 0 < wanted)
      → (place < length areas → wanted ≤ free + get_or areas place 0) → {cost : ℕ} → cost ≤ nothing
      → (place < length areas → IsSum window free bytes (get_or areas place 0) later cost)
      → {at : ℕ} → (place < length areas → at ≡ place) → (length areas ≤ place → cost ≡ nothing)
      → IsAreaChoice window free bytes areas later cost at
  near-one is {free} within {place}
      small large {cost} low sum {at} here none =
      let before : (k : ℕ) → k < place → free + get_or areas k 0 < bytes + least =
      grind (arith, is.most) in
      elim (cases_lt place (length areas))
      as (λ _. IsAreaChoice window free bytes areas later cost at) [
        | inl some ↦
            let fits = large some in
            let exact : wanted ≡ bytes + least =
            grind (arith, is.rows, is.whole) in
            near-at window free areas
            is.rows.width is.near is.rows.choices.ascending before
            low some (omega (arith, exact, fits)) (sum some) (here some)
        | inr past ↦ grind (arith, no-choice, is.rows, is.near)
      ]

-- what was written back to a whole list is what the list has
pub wrote-back : {n : ℕ} {new : List ℕ} (old : List ℕ) → length new ≡ length old → n ≡ length old
    → take n (new ++ drop (length new) old) ≡ new
wrote-back old same all = grind (arith, drop_all, append-nil, take_all)

-- ---- from the last area to the first

-- the row for the free bytes up to here, each with the first area that leaves enough
pub record IsNearTo (window bytes wanted : ℕ) (areas later : List ℕ) (place start : ℕ)
    (row old new : List ℕ) : Type 0 where
  pub cells : List ℕ
  pub appended : new ≡ old ++ cells
  pub many : length cells ≡ start
  pub width : length row ≡ window + 1
  pub ends : IsEndAt window wanted areas place start
  pub each : (free : ℕ) → free < start
      → IsAreaChoice window free bytes areas later (get_or row free 0) (get_or cells free 0)

module _ {window bytes least wanted : ℕ} {areas later : List ℕ}
    (before : IsBeforeSlope window bytes least wanted areas later) where
  -- no area leaves enough
  pub near-begin : {start : ℕ} {row old new : List ℕ}
      → IsEndAt window wanted areas (length areas) start → length row ≡ window + 1
      → ((free : ℕ) → free < start → get_or row free 0 ≡ nothing)
      → new ≡ take (length old + start) old ++ replicate (length old + start - length old) 0
      → IsNearTo window bytes wanted areas later (length areas) start row old new
  near-begin {start} {row} ends width none gives = record {
    cells = replicate start 0;
    appended = grind (arith, take_all);
    many = length-replicate start 0;
    width = width;
    ends = ends;
    each = λ free less.
        near-one before (omega (arith, less, ends.within)) (λ k early. ends.small free k less early)
        (λ some. absurd (omega (arith, some))) (omega (arith, none free less)) (λ some.
        absurd (omega (arith, some))) (λ some. absurd (omega (arith, some))) (λ _. none free less);
  }

  -- one more area, back to front, fills the row up to where it no longer leaves enough
  pub near-next : {place start end : ℕ} {row next old new more : List ℕ} → 0 < place
      → place ≤ length areas → IsEndAt window wanted areas (place - 1) end
      → AreSums window bytes (get_or areas (place - 1) 0) later start end row next
      → more ≡ take (length old + end) new ++ replicate (length old + end - length new) (place - 1)
      → IsNearTo window bytes wanted areas later place start row old new
      → IsNearTo window bytes wanted areas later (place - 1) end next old more
  near-next {place} {start} {end} {next = next} {old = old} {new = new} some
      within is sums gives so_far =
      let count : length new ≡ length old + start = grind (arith, length-append) in
      let rises : start ≤ end = end-rises some so_far.ends is in
      let many : ℕ = end - start in
      let added : List ℕ = replicate many (place - 1) in
      let kept : take (length old + end) new ≡ new = grind (arith, take_all) in
      let left : length old + end - length new ≡ many = omega (arith, count) in
      record {
        cells = so_far.cells ++ added;
        appended = grind (arith, append_assoc);
        many = omega (
          arith,
          length-append so_far.cells added,
          length-replicate many (place - 1),
          rises,
          so_far.many,
        );
        width = sums.width ∙ so_far.width;
        ends = is;
        each = λ free less.
            elim (cases_lt free start) as (λ _. IsAreaChoice window free bytes areas later
            (get_or next free 0) (get_or (so_far.cells ++ added) free 0)) [
              | inl early ↦ grind (arith, get_or_append_left)
              | inr from ↦
                  let behind : ℕ = free - start in
                  let here : free ≡ length so_far.cells + behind =
                  omega (arith, from, so_far.many) in
                  let at : get_or (so_far.cells ++ added) free 0 ≡ place - 1 =
                  grind (arith, get_or-append-add, get_or-replicate, many) in
                  near-one before (omega (arith, less, is.within))
                  (λ k early. is.small free k less early)
                  (λ _. so_far.ends.large free from (omega (arith, less, is.within)))
                  (sums.most free from less) (λ _. sums.each free from less) (λ _. at)
                  (λ past. absurd (omega (arith, past, some, within)))
            ];
      }

-- after the last of the areas the row is whole
pub near-end : {window bytes wanted start : ℕ} {areas later row old new : List ℕ}
    → IsNearTo window bytes wanted areas later 0 start row old new
    → AppendsRow window bytes areas later row old new
near-end {window} {start = start} is =
    let all : start ≡ window + 1 = grind (arith, cases_lt) in
    record {
      cells = is.cells;
      appended = is.appended;
      is = record {
        width = is.width;
        many = is.many ∙ all;
        each = λ free within. is.each free (omega (arith, within, all));
      };
    }
