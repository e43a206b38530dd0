-- The fields of a head after its text. The layout is in no standard: encoders write the text, a
-- word of flags, and then a number of frames, a number of bytes, a seek table of 100 entries and a
-- quality, each if its flag is set; after these follows an extension, whose first 36 bytes are
-- kept. Numbers have 32 bits and are big-endian.
use Rattle.std.specs.Int.{bit_at}
use Rattle.std.specs.Prelude.{Bool, bytes_eq, codes, drop, if◌then◌else◌, length, List, min, nat_le}
use Rattle.std.specs.Prelude.{None, Option, replicate, slice_index, Some, suc, take, zero, ℕ, []}
use Rattle.std.specs.Prelude.{◌&&◌, ◌*◌, ◌++◌, ◌+◌, ◌/◌, ◌==◌, ◌∷◌}
use Rattle.byteorder.specs.Endian.{big_bytes, big_number}
use Rattle.info_header.specs.declared.fields.Info.{Info}

-- ---- what is read

-- the word of flags, four bytes after the text; 0 where it is cut short
abbrev pub flags_in : List ℕ → ℕ
flags_in bytes = if nat_le 8 (length bytes) then big_number 4 (take 4 (drop 4 bytes)) else 0

-- the flag of a field is set: the flags of the frames, the bytes, the table and the quality are the
-- bits 0 to 3
abbrev pub is_flagged : ℕ → ℕ → Bool
is_flagged flags field = bit_at flags field == 1

-- the lengths of the four fields in bytes
abbrev pub field_size : ℕ → ℕ
field_size field = slice_index (4 ∷ 4 ∷ 100 ∷ 4 ∷ []) field

-- Where a field begins: after the text, the flags, and the fields before it whose flags are set.
-- Field 4 is the offset after the last field.
unfoldable pub field_offset : ℕ → ℕ → ℕ
field_offset flags zero = 8
field_offset flags (suc field) =
    field_offset flags field + (if is_flagged flags field then field_size field else 0)

-- The bytes of a field; none where its flag isn't set, or where it goes past the end. If a field
-- goes past the end, all flagged fields after it do too.
unfoldable pub field_in : ℕ → ℕ → List ℕ → Option (List ℕ)
field_in flags field bytes =
    if is_flagged flags field && nat_le (field_offset flags field + field_size field) (length bytes)
    then Some (take (field_size field) (drop (field_offset flags field) bytes))
    else None

-- a field that is a number
abbrev pub number_of : Option (List ℕ) → Option ℕ
number_of None = None
number_of (Some four) = Some (big_number 4 four)

-- the first n bytes, filled up with zeros where there are fewer
abbrev pub padded_bytes : ℕ → List ℕ → List ℕ
padded_bytes n bytes = take n (bytes ++ replicate n 0)

-- the fields of the head whose bytes these are, from its text on; `Xing` says that the bit rate
-- changes
unfoldable pub info_in : List ℕ → Info
info_in bytes = let flags = flags_in bytes in record {
  vbr = bytes_eq (take 4 bytes) (codes "Xing");
  frames = number_of (field_in flags 0 bytes);
  bytes = number_of (field_in flags 1 bytes);
  table = field_in flags 2 bytes;
  quality = number_of (field_in flags 3 bytes);
  extension = padded_bytes 36 (drop (field_offset flags 4) bytes);
}

-- ---- what is written

-- the text of a head, which says whether the bit rate changes
abbrev pub vbr_text : Bool → List ℕ
vbr_text vbr = if vbr then codes "Xing" else codes "Info"

-- a number, 0 where there is none
abbrev pub number_or_zero : Option ℕ → ℕ
number_or_zero None = 0
number_or_zero (Some n) = n

-- the table, 100 zeros where there is none
abbrev pub table_or_zeros : Option (List ℕ) → List ℕ
table_or_zeros None = replicate 100 0
table_or_zeros (Some table) = table

-- the bytes of a head: text, all four flags, the four fields and the extension, 156 bytes
unfoldable pub info_bytes : Info → List ℕ
info_bytes info =
    vbr_text info.vbr ++ (big_bytes 4 15
    ++ (big_bytes 4 (number_or_zero info.frames) ++ (big_bytes 4 (number_or_zero info.bytes)
    ++ (table_or_zeros info.table
    ++ (big_bytes 4 (number_or_zero info.quality) ++ info.extension)))))

-- the entry of the table for a frame at `offset`, out of `bytes` bytes: how many 256th parts are
-- before it, rounded down, at most 255
abbrev pub seek_table_entry : ℕ → ℕ → ℕ
seek_table_entry offset bytes = min (256 * offset / bytes) 255
