-- The names of pieces.
use Rattle.std.specs.{List.range_with_len, Prelude.{codes, List, map, ℕ, ◌%◌, ◌++◌, ◌+◌, ◌/◌, ◌∷◌}}

-- the name of piece k, counted from 1: the prefix, two decimal digits, and `.mp3`
unfoldable pub piece_name : List ℕ → ℕ → List ℕ
piece_name prefix k = prefix ++ (48 + k / 10) ∷ (48 + k % 10) ∷ codes ".mp3"

-- all 99 names that the prefix can give
unfoldable pub piece_names : List ℕ → List (List ℕ)
piece_names prefix = map (piece_name prefix) (range_with_len 1 99)
