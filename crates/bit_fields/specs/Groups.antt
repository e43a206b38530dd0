-- A format as a list of widths: successive groups of bits, each with its width, as the tables of a
-- standard give them.
use Rattle.std.specs.Prelude.{drop, length, List, take, ℕ, [], ◌*◌, ◌++◌, ◌+◌, ◌/◌, ◌<◌, ◌^◌, ◌∷◌}
use Rattle.std.specs.Prelude.{◌≡◌, ◌≤◌}
use Rattle.bit_fields.specs.Bits.{bits, bits_of, number}

-- the number of the group of `width` bits that begins at bit `from`
unfoldable pub group : ℕ → ℕ → List ℕ → ℕ
group from width bs = number (take width (drop from bs))

-- n bits from bit `at` on, at most 32, are bits of these bytes, and there are at most 2^28 bytes
pub record IsGroupIn (xs : List ℕ) (at n : ℕ) : Type 0 where
  pub few : n ≤ 32
  pub room : at + n ≤ 8 * length xs
  pub short : length xs ≤ 2 ^ 28

-- v is the number of the n bits from bit `at` on
pub record IsNumberOf (xs : List ℕ) (at n v : ℕ) : Type 0 where
  pub value : v ≡ group at n (bits xs)
  pub below : v < 2 ^ n

-- the group ends before byte `last`, which is at most five bytes after the byte in which the group
-- begins
pub record IsGroupReached (at n last : ℕ) : Type 0 where
  pub reached : at + n ≤ 8 * last
  pub near : last ≤ at / 8 + 5
  pub ordered : at / 8 ≤ last

-- the numbers of successive groups
unfoldable pub numbers_at : List ℕ → List ℕ → List ℕ
numbers_at [] bs = []
numbers_at (width ∷ widths) bs = number (take width bs) ∷ numbers_at widths (drop width bs)

-- the bits that spell numbers in successive groups
unfoldable pub group_bits : List ℕ → List ℕ → List ℕ
group_bits [] ns = []
group_bits (width ∷ widths) [] = []
group_bits (width ∷ widths) (n ∷ ns) = bits_of width n ++ group_bits widths ns

-- the bits with `value` instead of the group of `width` bits that begins at bit `at`
abbrev pub with_value : ℕ → ℕ → ℕ → List ℕ → List ℕ
with_value at width value bs = take at bs ++ bits_of width value ++ drop (at + width) bs

-- there is one number for each group, and each fits in its group
abbrev pub NumbersFit : List ℕ → List ℕ → Type 0
NumbersFit [] [] = Unit {0}
NumbersFit [] (n ∷ ns) = ⊥
NumbersFit (width ∷ widths) [] = ⊥
NumbersFit (width ∷ widths) (n ∷ ns) = (n < 2 ^ width) × NumbersFit widths ns
