-- The names of the files that are there, in order.
use Rattle.std.specs.{Cmp.Lexicographic.slice_cmp, List.{Contains, slice_get}}
use Rattle.std.specs.{List.Sorted.IsStrictlySortedBy, Ordering.nat_cmp}
use Rattle.std.specs.Prelude.{IsSome, List, Option, ℕ, ◌↔◌, ◌≡◌}
use Rattle.outside.specs.Files.{Contents}

-- these are the names that are there, each once, in the order of their bytes
pub record AreNames (files : Contents) (names : List (List ℕ)) : Type 0 where
  pub there : (name : List ℕ) → IsSome (files name) ↔ Contains names name
  pub ordered : IsStrictlySortedBy (slice_cmp nat_cmp) names

-- the name with this number in that order, if there are so many
abbrev pub IsNameAt : Contents → ℕ → Option (List ℕ) → Type 0
IsNameAt files number name =
    (names : List (List ℕ)) × AreNames files names × (slice_get names number ≡ name)
