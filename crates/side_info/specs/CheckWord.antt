-- The check word of a frame (ISO/IEC 11172-3, 2.4.3.1): the remainder of the bits that it covers in
-- a division by x^16 + x^15 + x^2 + 1.
use Rattle.std.specs.Int.{bit_at}
use Rattle.std.specs.Prelude.{bit_xor, drop, if◌then◌else◌, length, List, Ok, ℕ, [], ◌%◌, ◌*◌, ◌++◌}
use Rattle.std.specs.Prelude.{◌==◌, ◌∷◌, ◌≡◌}
use Rattle.bit_fields.specs.Bits.{bits}
use Rattle.frame_header.specs.{Fields.HeaderFields, HeaderBits.header_bits, Reading.header_at}
use Rattle.frame_header.specs.Tables.{class_of, side_size_of}
use Rattle.side_info.specs.{Side.{side_at, side_bits}, declared.side.Side.Side}

-- x^15 + x^2 + 1, the divisor below its highest power
abbrev pub polynomial : ℕ
polynomial = 0x8005

-- the word one bit further on: shifted left by one, with the divisor subtracted if the bit that is
-- shifted out isn't the bit that comes in
unfoldable pub crc_bit : ℕ → ℕ → ℕ
crc_bit word bit = let shifted = word * 2 % 65536 in
    if bit_at word 15 == bit then shifted else bit_xor shifted polynomial

-- the word after these bits, in order
unfoldable pub remainder : ℕ → List ℕ → ℕ
remainder word [] = word
remainder word (bit ∷ rest) = remainder (crc_bit word bit) rest

-- all ones, from which the division starts
abbrev pub crc_start : ℕ
crc_start = 0xffff

-- the check word of a frame: over the last 16 bits of the header and the side bits, one bit at a
-- time, from all ones
unfoldable pub check_word_of : HeaderFields → Side → ℕ
check_word_of h s = remainder crc_start (drop 16 (header_bits h) ++ side_bits (class_of h) s)

-- the check word of these four bytes and of the side bytes after them
pub record IsCrcOf (header part : List ℕ) (word : ℕ) : Type 0 where
  pub bytes : word ≡ remainder crc_start (bits (drop 2 header ++ part))
  -- it is the check word of the header and of the side fields that are read from these bytes
  pub read : (h : HeaderFields) → header_at header ≡ Ok h → length part ≡ side_size_of (class_of h)
      → word ≡ check_word_of h (side_at (class_of h) (bits part))
