-- Lost frames have only silent and lost frames before them, since the main data of any other frame
-- end after 0.
use Rattle.std.proofs.Common.{arith, Bool, cond, false, inl, inr, List, Option, refl, slice_get}
use Rattle.std.proofs.Common.{Some, suc, true, zero, ℕ, ◌<◌, ◌==◌, ◌||◌, ◌≡◌, ◌≤◌, ◌⊎◌}
use Rattle.std.proofs.lemmas.Bool.{and_from, and_parts, eq-eqb, eqb-true}
use Rattle.side_info.specs.Side.{payload_bytes}
use Rattle.sync_survey.specs.Laws.{AreSilentOrLost}
use Rattle.sync_survey.specs.MainData.{data_end_after, data_end_before, end_of_data, is_lost}
use Rattle.sync_survey.specs.{MainData.{is_silent, lacks_data, place, points_too_far}, Row.Row}
use Rattle.sync_survey.specs.declared.places.Head.{Head}

-- ---- after one frame

some_bits : {n : ℕ} → (n == 0) ≡ false → 1 ≤ n
some_bits e = grind arith

-- the main data of a frame that isn't silent end after 0
pub loud-end : (place : ℕ) (r : Row) → is_silent r ≡ false → 1 ≤ end_of_data place r
unfolding payload_bytes
loud-end place r loud = omega (arith, some_bits loud)

abbrev IsEmpty : ℕ → ℕ → Row → Type 0
IsEmpty place ended r = (is_silent r ≡ true) ⊎ (lacks_data place ended r ≡ true)

zero_cases : (place : ℕ) {ended : ℕ} (r : Row) {silent lost : Bool} → is_silent r ≡ silent
    → lacks_data place ended r ≡ lost → cond (silent || lost) ended (end_of_data place r) ≡ 0
    → (ended ≡ 0) × IsEmpty place ended r
zero_cases h r is other e = grind (arith, loud-end)

zero_behind : (place : ℕ) {ended : ℕ} (r : Row) → data_end_after place ended (Some r) ≡ 0
    → (ended ≡ 0) × IsEmpty place ended r
zero_behind place r e = grind (arith, zero_cases)

-- ---- after several

at_or_before : (j i : ℕ) → j < suc i → (j < i) ⊎ (j ≡ i)
at_or_before zero zero lt = inr refl
at_or_before zero (suc i) lt = inl (omega arith)
at_or_before (suc j) zero lt = absurd (omega (arith, lt))
at_or_before (suc j) (suc i) lt = grind (arith, at_or_before j i (omega (arith, lt)))

module _ (head : Option Head) (rows : List Row) where
  abbrev IsEmptyAt : ℕ → Row → Type 0
  IsEmptyAt j q = (is_silent q ≡ true) ⊎ (is_lost head rows j q ≡ true)

  here_by : {i j : ℕ} {q : Row} {o : Option Row} → slice_get rows i ≡ o
      → ((r : Row) → o ≡ Some r → IsEmptyAt i r) → j ≡ i → slice_get rows j ≡ Some q → IsEmptyAt j q
  here_by is each same found = grind arith

  step : {i : ℕ} {o : Option Row} → slice_get rows i ≡ o
      → (data_end_before head rows i ≡ 0 → AreSilentOrLost head rows i)
      → data_end_after (place head rows i) (data_end_before head rows i) o ≡ 0
      → AreSilentOrLost head rows (suc i)
  step is before e = grind (arith, here_by, at_or_before, zero_behind)

  -- if no main data end after 0 before a frame, all frames before it are silent or lost
  pub none-empty : (i : ℕ) → data_end_before head rows i ≡ 0 → AreSilentOrLost head rows i
  unfolding data_end_before
  none-empty zero e = λ j q lt found. absurd (omega (arith, lt))
  none-empty (suc i) e = step refl (none-empty i) e

  behind_empty : (i : ℕ) {o : Option Row} → slice_get rows i ≡ o → data_end_before head rows i ≡ 0
      → ((r : Row) → slice_get rows i ≡ Some r → IsEmptyAt i r)
      → data_end_after (place head rows i) (data_end_before head rows i) o ≡ 0
  behind_empty i is none each = grind arith

  -- if all frames before a frame are silent or lost, no main data before it end after 0
  pub empty-none : (i : ℕ) → AreSilentOrLost head rows i → data_end_before head rows i ≡ 0
  unfolding data_end_before
  empty-none zero all = refl
  empty-none (suc i) all =
      behind_empty i refl (empty-none i
      (λ j q lt found. all j q (omega (arith, lt)) found)) (λ r found. all i r (omega arith) found)

  -- ---- one frame

  -- a lost frame points too far back, and all frames before it are silent or lost
  pub lost-leads : {i : ℕ} (r : Row) → is_lost head rows i r ≡ true
      → (points_too_far (place head rows i) r ≡ true) × AreSilentOrLost head rows i
  lost-leads r lost = grind (arith, and_parts, none-empty, eqb-true)

  -- such a frame is lost
  pub leads-lost : {i : ℕ} (r : Row) → (points_too_far (place head rows i) r ≡ true)
      × AreSilentOrLost head rows i → is_lost head rows i r ≡ true
  leads-lost r leads = grind (arith, and_from, eq-eqb, empty-none)
