-- The order of a form's flags: of all orders, the words
-- go furthest with the flags that they begin with.
use Rattle.std.proofs.Common.{append_assoc, arith, drop, false, length, length-append, List, map}
use Rattle.std.proofs.Common.{None, not, refl, Some, subst, suc, sym, true, zero, ℕ, [], ◌++◌, ◌-◌}
use Rattle.std.proofs.{Common.{◌∷◌, ◌≡◌, ◌≤◌}, lemmas.Bool.both_ways}
use Rattle.std.proofs.lemmas.List.{length-drop, length-map}
use Rattle.std.proofs.lemmas.List.Elements.{All-cons, All-contains, All-filter, All-map, All-nil}
use Rattle.std.proofs.lemmas.{List.Elements.Contains-append_right, Slice.Eq.bytes_eq-Decides}
use Rattle.std.specs.{Cmp.Lexicographic.pointwise, List.{All, common_prefix_len, flat_map}}
use Rattle.std.specs.Prelude.{bytes_eq, Contains, find}
use Rattle.job_words.proofs.ListLemmas.{all_flat_map, contains_flat_map, contains_map, found}
use Rattle.job_words.proofs.ListLemmas.{none_is}
use Rattle.job_words.specs.Flags.{begins_flag, first_word, flag_first, flag_kinds, flag_words}
use Rattle.job_words.specs.Flags.{given_kinds, leading_flags_up_to, orders_up_to, without_flag}
use Rattle.job_words.specs.{Kinds.{fits_kind, Kind}, declared.flags.Flag.Flag}
use Rattle.job_words.specs.declared.flags.Flag.TheVariants.{Back, Least, Seamless, Tagless}
use Rattle.job_words.specs.declared.flags.Flag.TheVariants.{Wrapping}

-- ---- how far words go with kinds

-- not even the first word has its kind
abbrev pub IsNowhere : List Kind → List (List ℕ) → Type 0
IsNowhere kinds words =
    (common_prefix_len fits_kind kinds words ≡ 0) × (pointwise fits_kind kinds words ≡ false)

-- the words go no further with these kinds than with the
-- best, and have all of these only under this condition
abbrev pub IsNoBetter : Type 0 → List Kind → List Kind → List (List ℕ) → Type 0
IsNoBetter Only best kinds words =
    (common_prefix_len fits_kind kinds words ≤ common_prefix_len fits_kind best words)
    × (pointwise fits_kind kinds words ≡ true → Only)

-- kinds that the words follow nowhere are no better
pub nowhere : (Only : Type 0) (best kinds : List Kind) (words : List (List ℕ))
    → IsNowhere kinds words → IsNoBetter Only best kinds words
nowhere Only best kinds words none = grind (arith, both_ways)

-- kinds that are no better are no better after the same first kinds
pub after_same : (Only : Type 0) (front best kinds : List Kind) (words : List (List ℕ))
    → IsNoBetter Only best kinds (drop (length front) words)
    → IsNoBetter Only (front ++ best) (front ++ kinds) words
after_same Only [] best kinds words h = h
after_same Only (kind ∷ front) best kinds [] h = (omega arith, λ all. absurd cc)
after_same Only (kind ∷ front) best kinds (word ∷ words) h =
    grind (arith, after_same Only front best kinds words h)

-- kinds that are equal to kinds that are no better are no better
pub of_equal : (Only : Type 0) {best best' kinds kinds' : List Kind} (words : List (List ℕ)) → best'
    ≡ best → kinds' ≡ kinds → IsNoBetter Only best kinds words → IsNoBetter Only best' kinds' words
of_equal Only words same_best same h = rw (same_best, same) h

-- ---- the first words of flags

-- no two flags have the same first word
same_flag : (a b : Flag) → bytes_eq (first_word a) (first_word b) ≡ true → a ≡ b
same_flag Tagless Tagless same = refl
same_flag Wrapping Wrapping same = refl
same_flag Least Least same = refl
same_flag Back Back same = refl
same_flag Seamless Seamless same = refl
same_flag _ _ same = absurd cc

not_begun : (flag : Flag) (more : List Kind) (word : List ℕ) (words : List (List ℕ))
    → begins_flag word flag ≡ false → IsNowhere (flag_kinds flag ++ more) (word ∷ words)
not_begun Tagless more word words other = (rw other refl, rw other refl)
not_begun _ more word words other = (rw other refl, rw other refl)

no_words : (flag : Flag) (more : List Kind) → IsNowhere (flag_kinds flag ++ more) []
no_words Tagless more = (refl, refl)
no_words _ more = (refl, refl)

-- ---- orders of flags

-- the flag, and then an order of at most n others
abbrev orders_with : ℕ → List Flag → Flag → List (List Flag)
orders_with n flags flag =
    map (λ (rest : List Flag). flag ∷ rest) (orders_up_to n (without_flag flag flags))

-- a list of at most n of the flags, each at most once
abbrev pub IsOrder : ℕ → List Flag → List Flag → Type 0
IsOrder zero flags given = given ≡ []
IsOrder (suc n) flags [] = Unit {0}
IsOrder (suc n) flags (flag ∷ given) =
    Contains flags flag × IsOrder n (without_flag flag flags) given

-- all lists of at most n flags are orders
pub orders_are : (n : ℕ) (flags : List Flag) → All (IsOrder n flags) (orders_up_to n flags)
orders_are zero flags = All-cons (IsOrder zero flags) [] [] refl (All-nil (IsOrder zero flags))
orders_are (suc n) flags =
    All-cons (IsOrder (suc n) flags) [] (flat_map (orders_with n flags) flags) tt
    (all_flat_map (IsOrder (suc n) flags) (orders_with n flags) flags (λ flag member.
    All-map (IsOrder (suc n) flags) (λ (rest : List Flag). flag ∷ rest) (orders_up_to n
    (without_flag flag flags)) (λ k d lt. (member, orders_are n (without_flag flag flags) k d lt))))

-- the flags that the words begin with are an order
pub given_is_order : (n : ℕ) (flags : List Flag) (words : List (List ℕ))
    → Contains (orders_up_to n flags) (leading_flags_up_to n flags words)
given_is_order zero flags words = (0, omega arith, refl)
given_is_order (suc n) flags [] = (0, omega arith, refl)
given_is_order (suc n) flags (word ∷ words) =
    elim (find (begins_flag word) flags) as (λ o. find (begins_flag word) flags ≡ o
    → Contains (orders_up_to (suc n) flags) (flag_first o (λ flag. leading_flags_up_to n
    (without_flag flag flags) (drop (length (flag_words flag)) (word ∷ words))))) [
      | None ↦ λ none. (0, omega arith, refl)
      | Some flag ↦ λ is.
          let best =
          leading_flags_up_to n (without_flag flag flags)
          (drop (length (flag_words flag)) (word ∷ words)) in
          Contains-append_right ([] ∷ []) (flat_map (orders_with n flags) flags) (flag ∷ best)
          (contains_flat_map (orders_with n flags) flags
          (found (begins_flag word) flags is).0
          (contains_map (λ (rest : List Flag). flag ∷ rest)
          (orders_up_to n (without_flag flag flags))
          (given_is_order n (without_flag flag flags)
          (drop (length (flag_words flag)) (word ∷ words)))))
    ] refl

-- ---- no order is better than the flags that the words begin with;
-- `behind` has the kinds of the words after flags, by how many words there are

module _ (behind : ℕ → List Kind) where
  abbrev pub kinds_by : List Flag → List (List ℕ) → List Kind
  kinds_by given words = given_kinds given ++ behind (length words - length (given_kinds given))

  kinds_by-cons : (flag : Flag) (given : List Flag) (words : List (List ℕ))
      → kinds_by (flag ∷ given) words
      ≡ flag_kinds flag ++ kinds_by given (drop (length (flag_kinds flag)) words)
  kinds_by-cons flag given words = grind (arith, length-append, length-drop, append_assoc)

  -- the flag's first word can't be the first word after flags
  abbrev pub IsClear : Flag → Type 0
  IsClear flag = (word : List ℕ) → begins_flag word flag ≡ true → (n : ℕ) (words : List (List ℕ))
      → IsNowhere (behind n) (word ∷ words)

  abbrev pub IsNoBetterOrder : List (List ℕ) → List Flag → List Flag → Type 0
  IsNoBetterOrder words best given =
      IsNoBetter (given ≡ best) (kinds_by best words) (kinds_by given words) words

  itself : (words : List (List ℕ)) (given : List Flag) → IsNoBetterOrder words given given
  itself words given = (omega arith, λ all. refl)

  other_flag : (best : List Flag) {flag : Flag} (rest : List Flag) (word : List ℕ)
      (words : List (List ℕ)) → begins_flag word flag ≡ false
      → IsNoBetterOrder (word ∷ words) best (flag ∷ rest)
  other_flag best rest word words other = grind (arith, nowhere, kinds_by-cons, not_begun)

  same_first : (words : List (List ℕ)) {flag : Flag} {best rest : List Flag}
      → IsNoBetterOrder (drop (length (flag_words flag)) words) best rest
      → IsNoBetterOrder words (flag ∷ best) (flag ∷ rest)
  same_first words h = grind (arith, length-map, of_equal, kinds_by-cons, after_same)

  -- no other order is better than the one in which the flags are given
  pub no_better : (n : ℕ) (flags : List Flag) (words : List (List ℕ)) → All IsClear flags
      → (given : List Flag) → IsOrder n flags given
      → IsNoBetterOrder words (leading_flags_up_to n flags words) given
  no_better zero flags words clear given is = grind (arith, itself)
  no_better (suc n) flags [] clear [] is = itself [] []
  no_better (suc n) flags [] clear (flag ∷ rest) is =
      grind (arith, nowhere, kinds_by-cons, no_words)
  no_better (suc n) flags (word ∷ words) clear [] is =
      elim (find (begins_flag word) flags) as (λ o. find (begins_flag word) flags ≡ o
      → IsNoBetterOrder (word ∷ words)
      (flag_first o (λ flag. leading_flags_up_to n (without_flag flag flags)
      (drop (length (flag_words flag)) (word ∷ words)))) []) [
        | None ↦ λ none. itself (word ∷ words) []
        | Some flag ↦ λ found_is.
            let first = found (begins_flag word) flags found_is in
            nowhere _ _ (kinds_by [] (word ∷ words)) (word ∷ words) (All-contains IsClear flags flag
            clear first.0 word first.1 (length (word ∷ words) - 0) words)
      ] refl
  no_better (suc n) flags (word ∷ words) clear (other ∷ rest) is =
      elim (find (begins_flag word) flags) as (λ o. find (begins_flag word) flags ≡ o
      → IsNoBetterOrder (word ∷ words)
      (flag_first o (λ flag. leading_flags_up_to n (without_flag flag flags)
      (drop (length (flag_words flag)) (word ∷ words)))) (other ∷ rest)) [
        | None ↦ λ none. other_flag [] rest word words
            (none_is (begins_flag word) flags none is.0)
        | Some flag ↦ λ found_is.
            let first = found (begins_flag word) flags found_is in
            let best = λ (flag : Flag). leading_flags_up_to n (without_flag flag flags)
            (drop (length (flag_words flag)) (word ∷ words)) in
            elim (begins_flag word other) as (λ b. begins_flag word other ≡ b
            → IsNoBetterOrder (word ∷ words) (flag ∷ best flag) (other ∷ rest)) [
              | true ↦ λ begins.
                  let word-is : word ≡ first_word flag =
                  (bytes_eq-Decides word (first_word flag)).0 first.1 in
                  let same : flag ≡ other = same_flag flag other (rw (← word-is) begins) in
                  subst (λ (z : Flag). IsNoBetterOrder (word ∷ words) (z ∷ best z) (other ∷ rest))
                  (sym same)
                  (same_first (word ∷ words)
                  (no_better n (without_flag other
                  flags) (drop (length (flag_words other)) (word ∷ words)) (All-filter
                  (λ z. not (begins_flag (first_word other) z)) IsClear flags clear) rest is.1))
              | false ↦ λ differs. other_flag (flag ∷ best flag) rest word words differs
            ] refl
      ] refl
