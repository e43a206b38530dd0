-- Main data don't overlap, and end within the frame's own area, so all of them are at most as long
-- as all areas.
use Rattle.std.proofs.Common.{ap, arith, Bool, cond, false, List, Option, refl, slice_get, Some}
use Rattle.std.proofs.Common.{suc, sym, true, zero, ℕ, [], ◌+◌, ◌||◌, ◌∙◌, ◌∷◌, ◌≡◌, ◌≤◌}
use Rattle.std.proofs.lemmas.{Bool.eqb-true, List.Sums.sum_by-cons}
use Rattle.frame_header.specs.Fields.{ClassFields}
use Rattle.info_laws.specs.RoomLaw.{MainDataFit}
use Rattle.list_edits.specs.Totals.{main_data_in, row_areas, row_main_data}
use Rattle.side_info.specs.Side.{payload_bits, payload_bytes}
use Rattle.sync_survey.proofs.ApartLemmas.{area-more, place-apart, Stands, stands_by}
use Rattle.sync_survey.proofs.PlacedRowLemmas.{survey_fields-placed}
use Rattle.sync_survey.proofs.SurveyPartsLemmas.{data-none_well}
use Rattle.sync_survey.specs.MainData.{data_end_before, end_of_data, head_area, is_silent, own_area}
use Rattle.sync_survey.specs.{MainData.place, Row.Row, Survey.AreWellPlaced}
use Rattle.sync_survey.specs.declared.places.Head.{Head}

silent-bytes : (r : Row) → is_silent r ≡ true → payload_bytes r.side ≡ 0
unfolding payload_bytes
silent-bytes r is = omega (arith, eqb-true (payload_bits r.side) 0 is)

-- the main data after a frame end further on by its own at least, and within its area
one-by : {at ended : ℕ} {r : Row} {silent lost : Bool} → (silent ≡ true → payload_bytes r.side ≡ 0)
    → (lost ≡ false → Stands at ended r) → ended ≤ at
    → (ended + cond lost 0 (payload_bytes r.side)
    ≤ cond (silent || lost) ended (end_of_data at r))
    × (cond (silent || lost) ended (end_of_data at r) ≤ at + own_area r.header)
one-by none well before = grind arith

module _ {head : Option Head} {class : ClassFields} {rows : List Row}
    (placed : AreWellPlaced head class rows) where
  abbrev at : ℕ → ℕ
  at i = place head rows i

  abbrev ended : ℕ → ℕ
  ended i = data_end_before head rows i

  stands : (i : ℕ) {r : Row} → slice_get rows i ≡ Some r → r.lost ≡ false
      → Stands (at i) (ended i) r
  stands i {r} found kept = stands_by
      (data-none_well (placed i r found).sound
      (sym (placed i r found).mark ∙ kept))

  next-place : (i : ℕ) {r : Row} → slice_get rows i ≡ Some r → at (suc i) ≡ at i + own_area r.header
  next-place i {r} found =
      omega
      (arith, place-apart head rows i, place-apart head rows (suc i), area-more rows i found)

  next-end : (i : ℕ) {r : Row} → slice_get rows i ≡ Some r → ended i ≤ at i
      → (ended i + row_main_data r ≤ ended (suc i)) × (ended (suc i) ≤ at (suc i))
  unfolding data_end_before
  next-end i found before = grind (arith, one-by, silent-bytes, stands, next-place)

  -- from a frame on
  rest-fits : (n : ℕ) (xs : List Row)
      → ((i : ℕ) (r : Row) → slice_get xs i ≡ Some r → slice_get rows (n + i) ≡ Some r)
      → ended n ≤ at n → ended n + main_data_in xs ≤ at n + row_areas xs
  rest-fits n [] there before = omega (arith, before)
  rest-fits n (x ∷ xs) there before =
      let here : slice_get rows n ≡ Some x =
      ap (slice_get rows) (omega arith) ∙ there zero x refl in
      let next = next-end n here before in
      let rest =
      rest-fits (suc n) xs (λ i r found. ap (slice_get rows) (omega arith) ∙ there (suc i) r found)
      next.1 in
      omega (
        arith,
        next.0,
        rest,
        next-place n here,
        sum_by-cons row_main_data x xs,
        sum_by-cons (λ (r : Row). own_area r.header) x xs,
      )

  begins : at 0 ≡ head_area head
  unfolding place
  begins = omega arith

  all-fit : main_data_in rows ≤ head_area head + row_areas rows
  unfolding data_end_before
  all-fit =
      omega (
        arith,
        begins,
        rest-fits 0 rows (λ i r found. ap (slice_get rows) (omega arith) ∙ found) (omega arith),
      )

-- the main data are at most as long as the areas
pub data-fit : MainDataFit
data-fit file allowed s e = all-fit (survey_fields-placed file allowed e)
