-- Lists in order of a number that each entry has, its key.
use Rattle.std.specs.Prelude.{if◌then◌else◌, List, nat_lt, ℕ, [], ◌<◌, ◌∷◌, ◌≤◌}

-- an entry inserted before the first of these that isn't before it
abbrev pub ordered_insert : {A : Type 0} → (A → ℕ) → A → List A → List A
ordered_insert key t [] = t ∷ []
ordered_insert key t (u ∷ us) =
    if nat_lt (key u) (key t) then u ∷ ordered_insert key t us else t ∷ u ∷ us

-- the entries in order; those with the same key keep their order
unfoldable pub ordered_list : {A : Type 0} → (A → ℕ) → List A → List A
ordered_list key [] = []
ordered_list key (t ∷ ts) = ordered_insert key t (ordered_list key ts)

-- each entry is at or after the one before it, and the first is at or after a place
abbrev pub RisesBy : {A : Type 0} → (A → ℕ) → ℕ → List A → Type 0
RisesBy key from [] = Unit {0}
RisesBy key from (t ∷ ts) = (from ≤ key t) × RisesBy key (key t) ts

-- ---- two lists, each in order, as one

-- the entry and what follows it, after the others that are before it
abbrev pub merged_before : {A : Type 0} → (A → ℕ) → A → (List A → List A) → List A → List A
merged_before key t behind [] = t ∷ behind []
merged_before key t behind (u ∷ us) =
    if nat_lt (key u) (key t) then u ∷ merged_before key t behind us else t ∷ behind (u ∷ us)

-- two lists that are in order, as one
unfoldable pub merged_list : {A : Type 0} → (A → ℕ) → List A → List A → List A
merged_list key [] us = us
merged_list key (t ∷ ts) us = merged_before key t (merged_list key ts) us

-- the first of these is after the offset, if there is one
abbrev pub IsFirstAfter : {A : Type 0} → (A → ℕ) → ℕ → List A → Type 0
IsFirstAfter key at [] = Unit {0}
IsFirstAfter key at (t ∷ ts) = at < key t

-- the first of these is at or after the offset, if there is one
abbrev pub IsFirstFrom : {A : Type 0} → (A → ℕ) → ℕ → List A → Type 0
IsFirstFrom key at [] = Unit {0}
IsFirstFrom key at (t ∷ ts) = at ≤ key t

-- there is a first of these, and it is at or before the offset
abbrev pub IsFirstUntil : {A : Type 0} → (A → ℕ) → ℕ → List A → Type 0
IsFirstUntil key at [] = ⊥
IsFirstUntil key at (t ∷ ts) = key t ≤ at
