-- What a window holds, and the main data of a frame in it (main_data_begin, ISO/IEC 11172-3 and
-- 13818-3, 2.4.2.7). Here all areas, joined in order, are called the main data.
use Rattle.std.specs.Prelude.{drop, length, List, None, Option, replicate, Some, take, ℕ, [], ◌*◌}
use Rattle.std.specs.Prelude.{◌++◌, ◌+◌, ◌-◌, ◌/◌, ◌∷◌, ◌≡◌}
use Rattle.bit_fields.specs.Bits.{bits}
use Rattle.circular_buffer.specs.Buffer.{keep_last}

-- how many bytes a window holds: more than a frame can reach back over by main_data_begin and the
-- frame lengths of the standard
abbrev pub window_size : ℕ
window_size = 2048

-- the bytes held are the last 2,048 of all areas, or all where there are fewer
abbrev pub IsWindowOver : List ℕ → List ℕ → Type 0
IsWindowOver held main = held ≡ keep_last window_size main

-- the bytes held are the last of all areas, however many
abbrev pub AreLastOf : List ℕ → List ℕ → Type 0
AreLastOf held main = (front : List ℕ) × (main ≡ front ++ held)

-- `count` bits of all areas, from byte `start` on
abbrev pub main_bits : List ℕ → ℕ → ℕ → List ℕ
main_bits main start count = take count (drop (8 * start) (bits main))

-- as few bytes as hold `count` bits, with zeros after these bits to the end of the last byte
pub record AreBitsPacked (packed : List ℕ) (count : ℕ) (bs : List ℕ) : Type 0 where
  pub few : length packed ≡ (count + 7) / 8
  pub same : bits packed ≡ bs ++ replicate (8 * length packed - count) 0

-- a byte that may be there
abbrev pub byte_of : Option ℕ → List ℕ
byte_of None = []
byte_of (Some byte) = byte ∷ []
