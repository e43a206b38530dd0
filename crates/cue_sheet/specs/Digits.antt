-- Numbers as decimal digits, and steps of gain, 1.5 dB each.
use Rattle.std.specs.Prelude.{if◌then◌else◌, length, List, nat_le, neg_ℤ, None, Option, option_map}
use Rattle.std.specs.{Prelude.{pos, Some, ℕ, ℤ, [], ◌&&◌, ◌==◌, ◌∷◌}, Str.all_ascii_digits}
use Rattle.std.specs.Str.Parse.{digits_value}

-- the number that `least` to `most` digits spell, up to `greatest`
unfoldable pub number_in : ℕ → ℕ → ℕ → List ℕ → Option ℕ
number_in least most greatest digits =
    if nat_le least (length digits) && nat_le (length digits) most && all_ascii_digits digits
    && nat_le (digits_value 10 digits) greatest
    then Some (digits_value 10 digits) else None

-- one to three digits of a number up to 255
abbrev pub size_in : List ℕ → Option ℤ
size_in digits = option_map pos (number_in 1 3 255 digits)

-- the steps of gain that a word says: one to three digits up to 255, after `+` or `-` or alone
abbrev pub steps_in : List ℕ → Option ℤ
steps_in [] = None
steps_in (first ∷ rest) =
    if first == 43 then size_in rest
    else if first == 45 then option_map neg_ℤ (size_in rest)
    else size_in (first ∷ rest)
