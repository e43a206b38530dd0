-- Before a row in which each free byte saves one byte of areas,
-- the first area with which the main data fit is the best.
use Rattle.std.proofs.Common.{ap, append_assoc, ap₂, arith, drop, get_or, inl, inr, length}
use Rattle.std.proofs.Common.{length-append, List, map, replicate, set, subst, sym, take, ℕ, []}
use Rattle.std.proofs.{Common.{◌++◌, ◌+◌, ◌-◌, ◌<◌, ◌∙◌, ◌∷◌, ◌≡◌, ◌≤◌}, lemmas.Bool.cases_lt}
use Rattle.std.proofs.lemmas.List.{drop_more, get_or-append-add, get_or-append_right, get_or-drop}
use Rattle.std.proofs.lemmas.List.{get_or-map, get_or-replicate, get_or_append_left, length-map}
use Rattle.std.proofs.lemmas.List.{length-replicate, length-take-le, map-append, set_at, take_all}
use Rattle.std.proofs.lemmas.List.{take_more}
use Rattle.best_plan.specs.Rows.{AppendsFirstAreas, AppendsRow, HasUnitSlope, HasWindowRoom}
use Rattle.best_plan.specs.Rows.{IsAreaChoice, IsEndAt, IsFirstArea}

-- ---- the places, from the last area to the first
-- the places for the free bytes so far, each the first with which the main data fit
pub record IsFirstTo (window bytes : ℕ) (areas : List ℕ) (to : ℕ) (old new : List ℕ) : Type 0 where
  pub cells : List ℕ
  pub appended : new ≡ old ++ cells
  pub ends : IsEndAt window bytes areas to (length cells)
  pub each : (free : ℕ) → free < length cells → IsFirstArea bytes areas free (get_or cells free 0)

-- the ends rise
pub end-rises : {window bytes : ℕ} {areas : List ℕ} {to now next : ℕ} → 0 < to
    → IsEndAt window bytes areas to now → IsEndAt window bytes areas (to - 1) next → now ≤ next
end-rises {to = to} {now = now} {next = next} some first second =
    elim (cases_lt next now) as (λ _. now ≤ next) [
      | inl less ↦
          let large = second.large next (omega arith) (omega (arith, less, first.within)) in
          let small = first.small next (to - 1 - 1) less (omega (arith, some)) in
          absurd (omega (arith, large, small))
      | inr from ↦ from
    ]

-- one more area, back to front, fills the places up to where it no longer fits
pub first-more : {window bytes : ℕ} {areas : List ℕ} {to end : ℕ} {old new next : List ℕ} → 0 < to
    → to ≤ length areas → IsEndAt window bytes areas (to - 1) end
    → next ≡ take (length old + end) new ++ replicate (length old + end - length new) (to - 1)
    → IsFirstTo window bytes areas to old new → IsFirstTo window bytes areas (to - 1) old next
first-more {window} {bytes} {areas} {to} {end} {old} {new} some within is gives so_far =
    let count : length new ≡ length old + length so_far.cells = grind (arith, length-append) in
    let rises : length so_far.cells ≤ end =
    end-rises some so_far.ends is in
    let many : ℕ = end - length so_far.cells in
    let more : List ℕ = replicate many (to - 1) in
    let kept : take (length old + end) new ≡ new = grind (arith, take_all) in
    let left : length old + end - length new ≡ many = omega (arith, count) in
    let long : length (so_far.cells ++ more) ≡ end =
    omega (arith, length-append so_far.cells more, length-replicate many (to - 1), rises) in
    record {
      cells = so_far.cells ++ more;
      appended = grind (arith, append_assoc);
      ends = subst (IsEndAt window bytes areas (to - 1)) (sym long) is;
      each = λ free less.
          elim (cases_lt free (length so_far.cells))
          as (λ _. IsFirstArea bytes areas free (get_or (so_far.cells ++ more) free 0)) [
            | inl before ↦ grind (arith, get_or_append_left)
            | inr from ↦
                let behind : ℕ = free - length so_far.cells in
                let here : free ≡ length so_far.cells + behind = omega (arith, from) in
                let at : get_or (so_far.cells ++ more) free 0 ≡ to - 1 =
                grind (arith, get_or-append-add, get_or-replicate) in
                subst (IsFirstArea bytes areas free) (sym at) (record {
                  within = omega (arith, some, within);
                  fits = so_far.ends.large free from (omega (arith, less, long, is.within));
                  small = λ k before. is.small free k (omega (arith, less, long)) before;
                })
          ];
    }

-- after the last of the areas all places are filled
pub first-all : {window bytes : ℕ} {areas : List ℕ} {to : ℕ} {old new : List ℕ} → to ≡ 0
    → IsFirstTo window bytes areas to old new → AppendsFirstAreas window bytes areas old new
first-all {window} all so_far =
    let many : length so_far.cells ≡ window + 1 = grind (arith, cases_lt) in
    record {
      cells = so_far.cells;
      appended = so_far.appended;
      many = many;
      each = λ free within. so_far.each free (omega (arith, many, within));
    }

-- ---- the row of the first areas

-- the first area leaves at most the window
even-left : {window bytes : ℕ} {areas : List ℕ} {free place : ℕ} → HasWindowRoom window bytes areas
    → free
    ≤ window → IsFirstArea bytes areas free place → (free + get_or areas place 0) - bytes ≤ window
even-left room within is = grind (arith, cases_lt)

even-choice : {window bytes : ℕ} {areas later : List ℕ} {free place : ℕ} → length later ≡ window + 1
    → HasUnitSlope later → HasWindowRoom window bytes areas → free ≤ window
    → IsFirstArea bytes areas free place
    → IsAreaChoice window free bytes areas later (get_or later free 0 + bytes) place
even-choice width even room within is = grind (arith, even-left)

-- before a row in which each free byte saves one, these places and sums are the row
pub even-row : {window bytes : ℕ} {areas later sums old new : List ℕ} → length later ≡ window + 1
    → HasUnitSlope later → HasWindowRoom window bytes areas → sums ≡ map (λ n. n + bytes) later
    → AppendsFirstAreas window bytes areas old new
    → AppendsRow window bytes areas later sums old new
even-row {window} {bytes} {areas} {later} {sums} width even
    room is first = record {
      cells = first.cells;
      appended = first.appended;
      is = record {
        width = ap length is ∙ length-map later (λ n. n + bytes) ∙ width;
        many = first.many;
        each = λ free within.
            let sum : get_or sums free 0 ≡ get_or later free 0 + bytes =
            ap (λ l. get_or l free 0) is
            ∙ get_or-map (λ n. n + bytes) later free 0 0 (omega (arith, width, within)) in
            subst (λ n. IsAreaChoice window free bytes areas later n (get_or first.cells free 0))
            (sym sum)
            (even-choice width even room within (first.each free within));
      };
    }

-- in that row, too, each free byte saves one
pub even-again : (later : List ℕ) {sums : List ℕ} (bytes : ℕ) → HasUnitSlope later
    → sums ≡ map (λ n. n + bytes) later → HasUnitSlope sums
even-again later {sums} bytes even is free less =
    let many : length sums ≡ length later = ap length is ∙ length-map later (λ n. n + bytes) in
    let sum : (k : ℕ) → k < length sums → get_or sums k 0 ≡ get_or later k 0 + bytes =
    grind (arith, get_or-map) in
    omega (arith, sum free less, sum 0 (omega (arith, less)), even free (omega (arith, many, less)))

-- ---- `bytes` added to each sum

module _ (bytes : ℕ) (xs ys : List ℕ) (i d : ℕ) where
  -- the next sum hasn't changed
  pub added-here : i < length xs → ys ≡ map (λ n. n + bytes) (take i xs) ++ drop i xs
      → get_or ys i d ≡ get_or xs i d
  added-here less is = grind (arith, length-map, length-take-le, get_or-append_right, get_or-drop)

  -- adding the main data to the sum at i adds them to one more sum
  pub added-more : {sum : ℕ} → i < length xs → ys ≡ map (λ n. n + bytes) (take i xs) ++ drop i xs
      → sum ≡ get_or ys i d + bytes
      → set ys i sum ≡ map (λ n. n + bytes) (take (i + 1) xs) ++ drop (i + 1) xs
  added-more less is at =
      let f : ℕ → ℕ = λ n. n + bytes in
      let x : ℕ = get_or xs i d in
      let size : length (map f (take i xs)) ≡ i = grind (arith, length-map, length-take-le) in
      ap₂ (λ (l : List ℕ) (n : ℕ). set l i n) is (at ∙ ap f (added-here less is))
      ∙ ap (λ t. set (map f (take i xs) ++ t) i (f x)) (drop_more xs i d less)
      ∙ set_at (map f (take i xs)) x (drop (i + 1) xs) (f x) i size
      ∙ sym (append_assoc (map f (take i xs)) (f x ∷ []) (drop (i + 1) xs))
      ∙ ap (λ t. t ++ drop (i + 1) xs)
      (sym (map-append f (take i xs) (x ∷ [])) ∙ ap (map f) (sym (take_more xs i d less)))
