-- The last fields of the extension: music length and tag CRC. The tag CRC is the CRC of 16 bits
-- with the polynomial x^16 + x^15 + x^2 + 1, the least significant bit first, starting from 0, not
-- inverted: CRC-16/ARC. It covers the bytes of the Info frame before it.
use Rattle.std.specs.Prelude.{bit_xor, drop, fold, if◌then◌else◌, List, suc, take, zero, ℕ, ◌%◌}
use Rattle.std.specs.Prelude.{◌++◌, ◌+◌, ◌/◌, ◌==◌}
use Rattle.byteorder.specs.Endian.{big_bytes}
use Rattle.frame_header.specs.{Fields.{ClassFields, HeaderFields}, Tables.{class_of, side_size_of}}
use Rattle.info_header.specs.{Info.number_or_zero, InfoFrame.info_frame, declared.fields.Info.Info}

-- one bit further on: shifted right, and the divisor added if the bit that was shifted out is 1
unfoldable pub arc_bit : ℕ → ℕ
arc_bit word = if word % 2 == 1 then bit_xor (word / 2) 0xa001 else word / 2

-- `bits` bits further on
unfoldable pub arc_bits : ℕ → ℕ → ℕ
arc_bits zero word = word
arc_bits (suc bits) word = arc_bit (arc_bits bits word)

-- one byte further on
abbrev pub arc_byte : ℕ → ℕ → ℕ
arc_byte word byte = arc_bits 8 (bit_xor word byte)

-- the word after these bytes
abbrev pub arc_of : ℕ → List ℕ → ℕ
arc_of word bytes = fold arc_byte word bytes

-- ---- in an Info frame

-- where the text is
abbrev pub text_offset : ClassFields → ℕ
text_offset class = 4 + side_size_of class

-- where the number of bytes is: after the text, the flags and the number of frames
abbrev pub bytes_offset : ClassFields → ℕ
bytes_offset class = text_offset class + 12

-- where the music length is: in the bytes 28 to 31 of the extension
abbrev pub music_offset : ClassFields → ℕ
music_offset class = text_offset class + 148

-- where the tag CRC is: in the bytes 34 and 35 of the extension
abbrev pub crc_offset : ClassFields → ℕ
crc_offset class = text_offset class + 154

-- the frame with the number of bytes as its music length
unfoldable pub with_music_length : ClassFields → List ℕ → List ℕ
with_music_length class frame =
    take (music_offset class) frame
    ++ (take 4 (drop (bytes_offset class) frame) ++ drop (music_offset class + 4) frame)

-- the frame with the CRC of all bytes before the tag CRC as its tag CRC
unfoldable pub with_tag_crc : ClassFields → List ℕ → List ℕ
with_tag_crc class frame =
    take (crc_offset class) frame
    ++ (big_bytes 2 (arc_of 0 (take (crc_offset class) frame)) ++ drop (crc_offset class + 2) frame)

-- an Info frame with its music length and its tag CRC
abbrev pub sealed_frame : ClassFields → List ℕ → List ℕ
sealed_frame class frame = with_tag_crc class (with_music_length class frame)

-- ---- the fields of a sealed Info frame

-- the fields with a music length
abbrev pub with_length_field : Info → Info
with_length_field info = record info {
  extension =
      take 28 info.extension ++ (big_bytes 4 (number_or_zero info.bytes) ++ drop 32 info.extension);
}

-- the tag CRC of the Info frame with these fields before a first frame with this header
abbrev pub tag_crc_of : HeaderFields → Info → ℕ
tag_crc_of first info = arc_of 0 (take (crc_offset (class_of first)) (info_frame first info))

-- the fields with the tag CRC
abbrev pub with_crc_field : HeaderFields → Info → Info
with_crc_field first info = record info {
  extension = take 34 info.extension ++ big_bytes 2 (tag_crc_of first info);
}

-- the fields with both
abbrev pub sealed_info : HeaderFields → Info → Info
sealed_info first info = with_crc_field first (with_length_field info)
