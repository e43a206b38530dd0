-- The check word of a frame from its bytes.
use Rattle.std.proofs.Common.{ap, ap₂, drop, length, List, sym, ℕ, ◌*◌, ◌++◌, ◌∙◌, ◌≡◌}
use Rattle.bit_fields.proofs.BitsLemmas.{AreBits-bits, bits-append, drop-bits, length-bits}
use Rattle.bit_fields.specs.Bits.{bits}
use Rattle.frame_header.proofs.HeaderLemmas.{good, header_bits-header_at, IsClass-class_of}
use Rattle.frame_header.{proofs.HeaderLemmas.IsHeader-header_at, specs.Fields.HeaderFields}
use Rattle.frame_header.specs.{HeaderBits.header_bits, Reading.header_at}
use Rattle.frame_header.specs.Tables.{class_of, side_size_of}
use Rattle.side_info.proofs.SideLemmas.{side_bits-side_at}
use Rattle.side_info.specs.CheckWord.{check_word_of, crc_start, remainder}
use Rattle.side_info.specs.{Side.{side_at, side_bits}, declared.side.Side.Side}

-- the check word of the bytes that a header and side fields are written as is the check word of the
-- header and the fields
pub check_word-written : (four side : List ℕ) (h : HeaderFields) (s : Side)
    → bits four ≡ header_bits h → bits side ≡ side_bits (class_of h) s
    → remainder crc_start (bits (drop 2 four ++ side)) ≡ check_word_of h s
unfolding check_word_of
check_word-written four side h s front rest =
    ap (remainder crc_start)
    (bits-append (drop 2 four) side
    ∙ ap₂ (λ xs ys. xs ++ ys) (sym (drop-bits 2 four) ∙ ap (drop 16) front) rest)

-- the check word of bytes that were read is the check word of the header and the fields that were
-- read
pub check_word-read : (four side : List ℕ) {h : HeaderFields} → length four ≡ 4
    → header_at four ≡ good h → length side ≡ side_size_of (class_of h)
    → remainder crc_start (bits (drop 2 four ++ side))
    ≡ check_word_of h (side_at (class_of h) (bits side))
check_word-read four side {h} four_bytes is size =
    check_word-written four side h (side_at (class_of h) (bits side))
    (sym (header_bits-header_at four four_bytes is))
    (sym (side_bits-side_at (class_of h) (IsClass-class_of (IsHeader-header_at four is))
    (AreBits-bits side) (length-bits side ∙ ap (λ n. 8 * n) size)))
