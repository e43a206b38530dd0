-- The least over the areas so far, and the row so far.
use Rattle.std.proofs.Common.{ap, append_assoc, arith, get_or, inl, inr, length, List, refl, suc}
use Rattle.std.proofs.Common.{zero, ℕ, [], ◌++◌, ◌+◌, ◌<◌, ◌∙◌, ◌∷◌, ◌≡◌, ◌≤◌}
use Rattle.std.proofs.lemmas.{Bool.cases_lt, List.{get_or_append_left, get_or_push, length_push}}
use Rattle.best_plan.specs.Rows.{area_sum, IsAreaChoice, nothing}
use Rattle.slot_plan.proofs.AreaLemmas.{Ascend}

-- of the first `to` areas the one at `place` has the least sum
pub record IsChoiceTo (window free bytes : ℕ) (areas later : List ℕ)
    (to cost place : ℕ) : Type 0 where
  pub least : (k : ℕ) → k < to → bytes ≤ free + get_or areas k 0
      → cost ≤ area_sum window free bytes later (get_or areas k 0)
  pub within : cost < nothing → place < to
  pub fits : cost < nothing → bytes ≤ free + get_or areas place 0
  pub found : cost < nothing → cost ≡ area_sum window free bytes later (get_or areas place 0)
  pub first : (k : ℕ) → k < place → cost < nothing → bytes ≤ free + get_or areas k 0
      → cost < area_sum window free bytes later (get_or areas k 0)

-- areas ascend
pub not-greater : (ns : List ℕ) {j k : ℕ} → Ascend ns → j ≤ k → k < length ns
    → get_or ns j 0 ≤ get_or ns k 0
not-greater ns ascend from within = grind (arith, cases_lt, within)

-- ---- the bounds of sums

-- no sum so far is less than the one bound, and none
-- together with its free bytes is less than the other
pub record AreBoundsTo (later : List ℕ) (to least whole : ℕ) : Type 0 where
  pub alone : (free : ℕ) → free < to → least ≤ get_or later free 0
  pub together : (free : ℕ) → free < to → whole ≤ get_or later free 0 + free

-- ---- a row, by the number of free bytes

-- the row for the free bytes so far, each with the least sum over all areas
pub record IsRowTo (window bytes : ℕ) (areas later : List ℕ) (to : ℕ)
    (row old new : List ℕ) : Type 0 where
  pub cells : List ℕ
  pub appended : new ≡ old ++ cells
  pub width : length row ≡ to
  pub many : length cells ≡ to
  pub each : (free : ℕ) → free < to
      → IsAreaChoice window free bytes areas later (get_or row free 0) (get_or cells free 0)

-- one more number of free bytes is one more entry of the row
pub row-more : {window bytes : ℕ} {areas later : List ℕ} {to : ℕ} {row old new : List ℕ}
    {cost place : ℕ} → IsAreaChoice window to bytes areas later cost place
    → IsRowTo window bytes areas later to row old new
    → IsRowTo window bytes areas later (to + 1) (row ++ cost ∷ []) old (new ++ place ∷ [])
row-more {window} {bytes} {areas} {later} {to} {row} {cost = cost} {place = place} is so_far =
    let cells : List ℕ = so_far.cells ++ place ∷ [] in
    record {
      cells = cells;
      appended = grind (arith, append_assoc);
      width = length_push row cost ∙ ap (λ n. n + 1) so_far.width;
      many = length_push so_far.cells place ∙ ap (λ n. n + 1) so_far.many;
      each = λ free less.
          elim (cases_lt free to) as (λ _. IsAreaChoice window free bytes areas later
          (get_or (row ++ cost ∷ []) free 0) (get_or cells free 0)) [
            | inl before ↦ grind (arith, get_or_append_left)
            | inr from ↦ grind (arith, get_or_push)
          ];
    }

-- ---- zeros
-- zeros and one more zero are zeros
pub zero-more : (ns : List ℕ) → ((k : ℕ) → get_or ns k 0 ≡ 0) → (k : ℕ)
    → get_or (ns ++ 0 ∷ []) k 0 ≡ 0
zero-more [] all zero = refl
zero-more [] all (suc k) = refl
zero-more (n ∷ ns) all zero = all 0
zero-more (n ∷ ns) all (suc k) = zero-more ns (λ j. all (suc j)) k
