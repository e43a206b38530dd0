-- Two lists, each in order, as one.
use Rattle.std.proofs.Common.{ap, arith, List, map, refl, ℕ, [], ◌++◌, ◌<◌, ◌∷◌, ◌≡◌, ◌≤◌}
use Rattle.std.proofs.lemmas.Bool.{le-ltb, ltb-false, ltb-true}
use Rattle.sync_survey.specs.Order.{IsFirstAfter, IsFirstFrom, merged_list, ordered_insert}
use Rattle.sync_survey.specs.Order.{ordered_list, RisesBy}

module _ {A : Type 0} (key : A → ℕ) where
  -- ---- one entry put in

  put_first : {t : A} (ts : List A) → RisesBy key (key t) ts → ordered_insert key t ts ≡ t ∷ ts
  put_first [] rises = refl
  put_first {t} (u ∷ us) rises = rw (le-ltb (key u) (key t) rises.0) refl

  merged_nil : (ts : List A) → merged_list key ts [] ≡ ts
  unfolding merged_list
  merged_nil [] = refl
  merged_nil (t ∷ ts) = ap (λ us. t ∷ us) (merged_nil ts)

  -- ---- two lists as one

  -- an entry of the first list that isn't after the others comes first
  pub merged_own : {t : A} (ts us : List A) → IsFirstFrom key (key t) us
      → merged_list key (t ∷ ts) us ≡ t ∷ merged_list key ts us
  unfolding merged_list
  merged_own ts us le = grind arith

  -- one of the others that is before the first list comes first
  pub merged_other : (ts : List A) {u : A} (us : List A) → IsFirstAfter key (key u) ts
      → merged_list key ts (u ∷ us) ≡ u ∷ merged_list key ts us
  unfolding merged_list
  merged_other ts us lt = grind arith

  rises_after : {at from : ℕ} (ts : List A) → RisesBy key from ts → at < from
      → IsFirstAfter key at ts
  rises_after ts rises lt = grind arith

  -- an entry at or before both lists is put before them
  put_before : {t : A} (ts us : List A) → RisesBy key (key t) ts → RisesBy key (key t) us
      → ordered_insert key t (merged_list key ts us) ≡ t ∷ merged_list key ts us
  unfolding merged_list
  put_before {t} [] us rises behind = put_first us behind
  put_before {t} (s ∷ ts) [] rises behind = rw (le-ltb (key s) (key t) rises.0) refl
  put_before (s ∷ ts) (u ∷ us) rises behind = grind (arith, le-ltb)

  -- entries that rise from a number on rise from any lesser one
  pub rises_from : {from to : ℕ} (ts : List A) → from ≤ to → RisesBy key to ts → RisesBy key from ts
  rises_from [] le rises = tt
  rises_from (t ∷ ts) le rises = (omega (arith, le, rises.0), rises.1)

  put_merged : (t : A) (ts us : List A) (from : ℕ) → RisesBy key (key t) ts → RisesBy key from us
      → ordered_insert key t (merged_list key ts us) ≡ merged_list key (t ∷ ts) us
  unfolding merged_list
  put_merged t ts [] from rises up = grind (arith, merged_nil, put_first)
  put_merged t ts (u ∷ us) from rises up =
      grind (
        arith,
        merged_other,
        rises_after,
        ltb-true,
        put_before,
        ltb-false,
        put_merged t ts us (key u) rises up.1,
      )

  -- ---- two lists, each in order

  ordered_same : (ts : List A) (from : ℕ) → RisesBy key from ts → ordered_list key ts ≡ ts
  unfolding ordered_list
  ordered_same [] from rises = refl
  ordered_same (t ∷ ts) from rises = grind (arith, put_first, ordered_same ts (key t) rises.1)

  -- two lists that rise, joined and put in order, are merged
  pub ordered_both : (ts us : List A) (from to : ℕ) → RisesBy key from ts → RisesBy key to us
      → ordered_list key (ts ++ us) ≡ merged_list key ts us
  unfolding ordered_list merged_list
  ordered_both [] us from to rises up = ordered_same us to up
  ordered_both (t ∷ ts) us from to rises up =
      grind (arith, put_merged, ordered_both ts us (key t) to rises.1 up)

-- ---- entries compared by what is made of them

module _ {A B : Type 0} (key : B → ℕ) (f : A → B) (at : ℕ) where
  -- what is made of entries after an offset is after it
  pub after_map : (ts : List A) → IsFirstAfter (λ t. key (f t)) at ts
      → IsFirstAfter key at (map f ts)
  after_map ts after = grind arith

  -- what is made of entries from an offset on is from it on
  pub from_map : (ts : List A) → IsFirstFrom (λ t. key (f t)) at ts → IsFirstFrom key at (map f ts)
  from_map ts from = grind arith
