-- The last digits of numbers, as text.
use Rattle.std.specs.Prelude.{List, ℕ, [], ◌%◌, ◌++◌, ◌+◌, ◌/◌, ◌∷◌}

-- the last two digits
abbrev pub two_digits : ℕ → List ℕ
two_digits n = (48 + n / 10 % 10) ∷ (48 + n % 10) ∷ []

-- the last four digits
abbrev pub four_digits : ℕ → List ℕ
four_digits n = two_digits (n / 100) ++ two_digits (n % 100)
