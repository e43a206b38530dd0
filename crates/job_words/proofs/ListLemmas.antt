-- Searches, members, greatest numbers, agreeing lists and pairs.
use Rattle.std.proofs.Common.{arith, Bool, cond, drop, false, inl, inr, length, List, map, max, min}
use Rattle.std.proofs.Common.{None, refl, replicate, Some, suc, take, true, zero, ℕ, [], ◌++◌, ◌/◌}
use Rattle.std.proofs.{Common.{◌↔◌, ◌∙◌, ◌∷◌, ◌≡◌, ◌≤◌, ◌⊎◌}, lemmas.Bool.{and_parts, cases_lt}}
use Rattle.std.proofs.lemmas.{Grind.common_steps, List.{get_or-map, length-map}}
use Rattle.std.proofs.lemmas.List.Elements.{All-append, All-cons, All-contains, All-nil}
use Rattle.std.proofs.lemmas.List.Elements.{Contains-append_left, Contains-append_right}
use Rattle.std.proofs.lemmas.List.Folds.{find_at}
use Rattle.std.proofs.lemmas.List.Sums.{fails_before_first, fold-append, passes_at_first}
use Rattle.std.proofs.lemmas.Option.{get_or_from_slice_get, gets, slice_get_within}
use Rattle.std.specs.{Cmp.Lexicographic.pointwise, List.{All, AllZip, common_prefix_len, flat_map}}
use Rattle.std.specs.Prelude.{Contains, find, fold}
use Rattle.job_words.specs.Forms.{pairs_of}

-- ---- searches

-- what a search finds
pub found : {X : Type 0} (p : X → Bool) (xs : List X) {x : X} → find p xs ≡ Some x
    → Contains xs x × (p x ≡ true)
found p xs e =
    grind (
      arith,
      find_at,
      slice_get_within,
      get_or_from_slice_get,
      common_steps,
      gets,
      passes_at_first,
    )

-- a member doesn't pass where the search finds nothing
pub none_is : {X : Type 0} (p : X → Bool) (xs : List X) {x : X} → find p xs ≡ None → Contains xs x
    → p x ≡ false
none_is p xs none member = grind (arith, common_steps, gets, find_at, fails_before_first)

-- the search finds the one member that may pass, if it does
pub only_one : {X : Type 0} (p : X → Bool) (xs : List X) {best : X} → Contains xs best
    → All (λ x. p x ≡ true → x ≡ best) xs → find p xs ≡ cond (p best) (Some best) None
only_one p xs {best} member only =
    elim (find p xs) as (λ o. find p xs ≡ o → o ≡ cond (p best) (Some best) None) [
      | None ↦ λ none. rw (none_is p xs none member) refl
      | Some x ↦ grind (arith, found, All-contains)
    ] refl

-- ---- members

-- what is made of a member is among what is made of all
pub contains_map : {X Y : Type 0} (f : X → Y) (xs : List X) {x : X} → Contains xs x
    → Contains (map f xs) (f x)
contains_map f xs member = grind (arith, length-map, get_or-map)

-- what is made of a member, as one of a list, is among all that is made
pub contains_flat_map : {X Y : Type 0} (f : X → List Y) (xs : List X) {x : X} {y : Y}
    → Contains xs x → Contains (f x) y → Contains (flat_map f xs) y
contains_flat_map f [] member inner = absurd (omega (arith, member.1))
contains_flat_map f (z ∷ zs) (zero, within, at) inner = grind (arith, Contains-append_left)
contains_flat_map f (z ∷ zs) {x} {y} (suc k, within, at) inner = Contains-append_right (f z)
    (flat_map f zs) y (contains_flat_map f zs (k, omega (arith, within), at) inner)

-- what holds of everything made of each member holds of everything made
pub all_flat_map : {X Y : Type 0} (P : Y → Type 0) (f : X → List Y) (xs : List X)
    → ((x : X) → Contains xs x → All P (f x)) → All P (flat_map f xs)
all_flat_map P f [] each = All-nil P
all_flat_map P f (x ∷ xs) each =
    All-append P (f x) (flat_map f xs) (each x (0, omega arith, refl))
    (all_flat_map P f xs (λ y member. each y (Contains-append_right (x ∷ []) xs y member)))

-- ---- the greatest of numbers: it is at least the first and each other, and is one of them

module _ {X : Type 0} (f : X → ℕ) where
  -- no member is greater than the greatest
  pub bounds : (a : ℕ) (xs : List X)
      → (a ≤ fold max a (map f xs)) × All (λ x. f x ≤ fold max a (map f xs)) xs
  bounds a [] = (omega arith, All-nil _)
  bounds a (x ∷ xs) = grind (arith, All-cons, bounds (max a (f x)) xs)

  -- the greatest is the first number or the number of a member
  pub reached : (a : ℕ) (xs : List X)
      → (fold max a (map f xs) ≡ a) ⊎ ((x : X) × Contains xs x × (f x ≡ fold max a (map f xs)))
  reached a [] = inl refl
  reached a (x ∷ xs) =
      elim (reached (max a (f x)) xs) [
        | inl same ↦ grind (arith, cases_lt)
        | inr at ↦ inr (at.0, Contains-append_right (x ∷ []) xs at.0 at.1, at.2)
      ]

  -- if no other member's number is greater, a member's number is the greatest
  pub greatest_is : (xs : List X) {x : X} → Contains xs x → All (λ y. f y ≤ f x) xs
      → fold max 0 (map f xs) ≡ f x
  greatest_is xs member all = grind (arith, All-contains, bounds, reached)

-- the greatest number of two joined lists is the greater of their greatest numbers
pub greatest_append : (a : ℕ) (xs ys : List ℕ)
    → fold max a (xs ++ ys) ≡ max (fold max a xs) (fold max 0 ys)
greatest_append a xs ys = fold-append max a xs ys ∙ from_there (fold max a xs) ys
  where
    from_there : (a : ℕ) (ys : List ℕ) → fold max a ys ≡ max a (fold max 0 ys)
    from_there a [] = omega arith
    from_there a (y ∷ ys) = omega (arith, from_there (max a y) ys, from_there (max 0 y) ys)

-- ---- lists that agree, one for one

module _ {X Y : Type 0} (e : X → Y → Bool) where
  -- lists agree exactly where they agree as far as both reach
  pub whole : (xs : List X) (ys : List Y) → (pointwise e xs ys ≡ true)
      ↔ ((common_prefix_len e xs ys ≡ length xs) × (common_prefix_len e xs ys ≡ length ys))
  whole [] [] = ((λ all. (refl, refl)), (λ both. refl))
  whole [] (y ∷ ys) = ((λ all. absurd cc), (λ both. absurd (omega (arith, both.1))))
  whole (x ∷ xs) [] = ((λ all. absurd cc), (λ both. absurd (omega (arith, both.0))))
  whole (x ∷ xs) (y ∷ ys) = grind (arith, whole xs ys)

  -- the first members agree as far as all do, up to their number
  pub common_prefix_len-take : (n : ℕ) (xs : List X) (ys : List Y)
      → common_prefix_len e (take n xs) (take n ys) ≡ min n (common_prefix_len e xs ys)
  common_prefix_len-take zero xs ys = omega arith
  common_prefix_len-take (suc n) [] ys = omega arith
  common_prefix_len-take (suc n) (x ∷ xs) [] = omega arith
  common_prefix_len-take (suc n) (x ∷ xs) (y ∷ ys) = grind (arith, common_prefix_len-take n xs ys)

  -- lists that agree everywhere agree pair by pair
  pub zipped : (xs : List X) (ys : List Y) → pointwise e xs ys ≡ true
      → AllZip (λ x y. e x y ≡ true) xs ys
  zipped [] [] all = tt
  zipped [] (y ∷ ys) all = absurd cc
  zipped (x ∷ xs) [] all = absurd cc
  zipped (x ∷ xs) (y ∷ ys) all = let both = and_parts (e x y) (pointwise e xs ys) all in
      (both.0, zipped xs ys both.1)

module _ {X Y : Type 0} (R : X → Y → Type 0) where
  -- the ends of lists that are related pair by pair are too
  pub zip_drop : (n : ℕ) (xs : List X) (ys : List Y) → AllZip R xs ys
      → AllZip R (drop n xs) (drop n ys)
  zip_drop zero xs ys all = all
  zip_drop (suc n) [] [] all = tt
  zip_drop (suc n) [] (y ∷ ys) all = absurd all
  zip_drop (suc n) (x ∷ xs) [] all = absurd all
  zip_drop (suc n) (x ∷ xs) (y ∷ ys) all = zip_drop n xs ys all.1

  -- what is paired with one repeated thing is related to it
  pub zip_replicate : (n : ℕ) (x : X) (ys : List Y) → AllZip R (replicate n x) ys → All (R x) ys
  zip_replicate zero x [] all = All-nil (R x)
  zip_replicate zero x (y ∷ ys) all = absurd all
  zip_replicate (suc n) x [] all = absurd all
  zip_replicate (suc n) x (y ∷ ys) all = All-cons (R x) y ys all.0 (zip_replicate n x ys all.1)

-- ---- pairs of a list

-- what holds of each member holds of both of each pair
pub All-pairs_of : {X : Type 0} (P : X → Type 0) (xs : List X) → All P xs
    → All (λ pair. P pair.0 × P pair.1) (pairs_of xs)
All-pairs_of P [] all = All-nil _
All-pairs_of P (x ∷ []) all = All-nil _
All-pairs_of P (x ∷ y ∷ xs) all =
    All-cons (λ pair. P pair.0 × P pair.1) (x, y) (pairs_of xs)
    (all 0 x (omega arith), all 1 x (omega arith))
    (All-pairs_of P xs (λ k d lt. all (suc (suc k)) d (omega (arith, lt))))

-- there are half as many pairs as members
pub length-pairs_of : {X : Type 0} (xs : List X) → length (pairs_of xs) ≡ length xs / 2
length-pairs_of [] = refl
length-pairs_of (x ∷ []) = refl
length-pairs_of (x ∷ y ∷ xs) = omega (arith, length-pairs_of xs)
