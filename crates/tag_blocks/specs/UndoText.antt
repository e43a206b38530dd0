-- The value of the undo item, as mp3gain writes it: the steps that undoing applies to the left and
-- to the right channel, and whether gains wrap.
use Rattle.std.specs.Char.{is_ascii_digit}
use Rattle.std.specs.Prelude.{Bool, drop, if◌then◌else◌, int_lt, length, List, neg_ℤ, None, Option}
use Rattle.std.specs.Prelude.{pos, slice_index, Some, take, unsigned_abs, ℕ, ℤ, [], ◌%◌, ◌&&◌, ◌*◌}
use Rattle.std.specs.Prelude.{◌++◌, ◌+◌, ◌-◌, ◌/◌, ◌==◌, ◌||◌, ◌∷◌, ◌≤◌}
use Rattle.tag_blocks.specs.declared.undo.Undo.{Undo}

-- ---- written

-- the sign and the three decimal digits of a number
-- from -999 to 999; 43 is '+', 45 is '-' and 48 is '0'
abbrev pub steps_text : ℤ → List ℕ
steps_text steps =
    (if int_lt steps (pos 0) then 45 else 43) ∷ (48 + unsigned_abs steps / 100)
    ∷ (48 + unsigned_abs steps / 10 % 10) ∷ (48 + unsigned_abs steps % 10) ∷ []

-- 87 is 'W' and 78 is 'N'
abbrev pub wrap_letter : Bool → ℕ
wrap_letter wrap = if wrap then 87 else 78

-- the left number, a comma, the right number, a comma, and `W` or `N`; 44 is the comma
abbrev pub undo_text : Undo → List ℕ
undo_text undo =
    steps_text undo.left ++ (44 ∷ (steps_text undo.right ++ (44 ∷ wrap_letter undo.wrap ∷ [])))

-- both numbers are from -999 to 999
pub record UndoFitsText (undo : Undo) : Type 0 where
  pub left : unsigned_abs undo.left ≤ 999
  pub right : unsigned_abs undo.right ≤ 999

-- ---- read

-- a sign and three digits
abbrev pub is_steps : List ℕ → Bool
is_steps four = ((slice_index four 0 == 43) || (slice_index four 0 == 45))
    && is_ascii_digit (slice_index four 1) && is_ascii_digit (slice_index four 2)
    && is_ascii_digit (slice_index four 3)

-- the number of the three digits after the sign
abbrev pub digits_number : List ℕ → ℕ
digits_number four =
    (slice_index four 1 - 48) * 100 + (slice_index four 2 - 48) * 10 + (slice_index four 3 - 48)

-- the number that the sign and the digits spell
abbrev pub spelled_steps : List ℕ → ℤ
spelled_steps four =
    if slice_index four 0 == 45 then neg_ℤ (pos (digits_number four)) else pos (digits_number four)

-- a sign, three digits, a comma, a sign, three digits, a comma, and `N` or `W`
unfoldable pub is_undo_text : List ℕ → Bool
is_undo_text value =
    (length value == 11) && is_steps (take 4 value) && (slice_index value 4 == 44)
    && is_steps (take 4 (drop 5 value)) && (slice_index value 9 == 44)
    && ((slice_index value 10 == 78) || (slice_index value 10 == 87))

-- what a value of this form says
unfoldable pub undo_of : List ℕ → Option Undo
undo_of value = if is_undo_text value then Some (record {
  left = spelled_steps (take 4 value);
  right = spelled_steps (take 4 (drop 5 value));
  wrap = slice_index value 10 == 87;
}) else None
