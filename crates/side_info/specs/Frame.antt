-- Where the check word and the side information of a frame are (ISO/IEC 11172-3, 2.4.1): first
-- the header, then the check word of a protected frame, the side information, and the area.
use Rattle.std.specs.Prelude.{Bool, drop, if◌then◌else◌, List, take, ℕ, [], ◌++◌, ◌+◌}
use Rattle.bit_fields.specs.Bits.{bits, bits_of, bytes, number}
use Rattle.frame_header.specs.{Fields.HeaderFields, HeaderBits.header_bits}
use Rattle.frame_header.specs.Tables.{class_of, overhead_of, side_size_of}
use Rattle.side_info.specs.{CheckWord.check_word_of, Side.{side_at, side_bits}}
use Rattle.side_info.specs.declared.side.Side.{Side}

-- the byte at which the side information begins: after the header, or after the check word
abbrev pub side_offset : Bool → ℕ
side_offset protected = 4 + (if protected then 2 else 0)

-- the bytes of the side information in a frame with this header
unfoldable pub side_part : HeaderFields → List ℕ → List ℕ
side_part h frame = take (side_size_of (class_of h)) (drop (side_offset h.protected) frame)

-- the side information that is in a frame with this header
unfoldable pub side_in : HeaderFields → List ℕ → Side
side_in h frame = side_at (class_of h) (bits (side_part h frame))

-- the check word that is in a protected frame: the two bytes after the header (2.4.1.4)
unfoldable pub stored_crc : List ℕ → ℕ
stored_crc frame = number (bits (take 2 (drop 4 frame)))

-- the check word that is right for its header and side information (2.4.3.1)
abbrev pub right_crc : HeaderFields → List ℕ → ℕ
right_crc h frame = check_word_of h (side_in h frame)

-- the bytes of the check word of a frame with this side information; none where it isn't protected
abbrev pub crc_part : HeaderFields → Side → List ℕ
crc_part h s = if h.protected then bytes (bits_of 16 (check_word_of h s)) else []

-- the frame with this side information instead of its own, and with the check word that is right
-- for it
unfoldable pub frame_with_side : HeaderFields → Side → List ℕ → List ℕ
frame_with_side h s frame = take 4 frame ++ (crc_part h s
    ++ (bytes (side_bits (class_of h) s) ++ drop (overhead_of (class_of h) h.protected) frame))

-- the front of a frame: the header, the check word that is right for this header and this side
-- information if the frame is protected, and the side information
unfoldable pub frame_front_bytes : HeaderFields → Side → List ℕ
frame_front_bytes h s = bytes (header_bits h) ++ (crc_part h s ++ bytes (side_bits (class_of h) s))
