-- Where a block of a tag begins, and how long it is: ID3v2 by the informal standards ID3v2.3.0
-- (3.1) and ID3v2.4.0 (3.1, 3.4 and 6.2), ID3v1 and APEv2 by the public descriptions of their
-- layout. A block is recognized by its first bytes alone; its contents aren't checked.
use Rattle.std.specs.{Int.bit_at, List.list_all, Option.option_or}
use Rattle.std.specs.Prelude.{Bool, bytes_eq, codes, drop, if◌then◌else◌, length, List, nat_le}
use Rattle.std.specs.Prelude.{nat_lt, None, not, Option, slice_index, Some, take, ℕ, ◌&&◌, ◌*◌, ◌+◌}
use Rattle.std.specs.Prelude.{◌==◌, ◌^◌}
use Rattle.byteorder.specs.Endian.{little_number}
use Rattle.tag_blocks.specs.declared.block.{Block.Block, Kind.Kind}
use Rattle.tag_blocks.specs.declared.block.Kind.TheVariants.{Ape, Id3v1, Id3v2}

-- the bytes begin with this text
abbrev pub begins_with : List ℕ → List ℕ → Bool
begins_with text bytes = bytes_eq text (take (length text) bytes)

-- ---- ID3v2 (ID3v2.3.0, 3.1; ID3v2.4.0, 3.1, 3.4 and 6.2)

-- the number of four bytes of 7 bits each, the first the most significant (ID3v2.4.0, 6.2)
abbrev pub seven_bit_number : List ℕ → ℕ
seven_bit_number four = slice_index four 0 * 2 ^ 21 + slice_index four 1 * 2 ^ 14
    + slice_index four 2 * 2 ^ 7 + slice_index four 3

-- the four bytes of the size in the header, which counts neither the header nor the footer
abbrev pub id3v2_size : List ℕ → List ℕ
id3v2_size bytes = take 4 (drop 6 bytes)

-- a header of 10 bytes: `ID3`, two bytes of the version that aren't ff, the flags, and four bytes
-- of the size below 80 hex (ID3v2.3.0 and ID3v2.4.0, 3.1)
unfoldable pub is_id3v2 : List ℕ → Bool
is_id3v2 bytes =
    nat_le 10 (length bytes) && begins_with (codes "ID3") bytes && not (slice_index bytes 3 == 255)
    && not (slice_index bytes 4 == 255) && list_all (λ b. nat_lt b 128) (id3v2_size bytes)

-- flag 10 hex says that a footer of 10 bytes is at the end (ID3v2.4.0, 3.4)
abbrev pub footer_length : ℕ → ℕ
footer_length flags = if bit_at flags 4 == 1 then 10 else 0

-- the length of the header, of what its size counts, and of the footer
unfoldable pub id3v2_length : List ℕ → ℕ
id3v2_length bytes = 10 + seven_bit_number (id3v2_size bytes) + footer_length (slice_index bytes 5)

-- ---- ID3v1

-- a block of 128 bytes begins with the text `TAG`
unfoldable pub is_id3v1 : List ℕ → Bool
is_id3v1 bytes = begins_with (codes "TAG") bytes

-- ---- APEv2

-- the little-endian number of 32 bits at this offset
abbrev pub ape_number : ℕ → List ℕ → ℕ
ape_number at bytes = little_number 4 (take 4 (drop at bytes))

-- the version in a header or a footer
abbrev pub ape_version : List ℕ → ℕ
ape_version bytes = ape_number 8 bytes

-- the size of the items and the footer
abbrev pub ape_size : List ℕ → ℕ
ape_size bytes = ape_number 12 bytes

-- the flags in a header or a footer
abbrev pub ape_flags : List ℕ → ℕ
ape_flags bytes = ape_number 20 bytes

-- a header of 32 bytes: `APETAGEX`, version 2000, a size that has room for the footer, any count of
-- items, flags which say that the tag has a header (bit 31) and that this is the header (bit 29),
-- and any 8 bytes
unfoldable pub is_ape : List ℕ → Bool
is_ape bytes =
    nat_le 32 (length bytes) && begins_with (codes "APETAGEX") bytes && (ape_version bytes == 2000)
    && nat_le 32 (ape_size bytes) && (bit_at (ape_flags bytes) 31 == 1)
    && (bit_at (ape_flags bytes) 29 == 1)

-- the length of the header and of what its size counts
unfoldable pub ape_length : List ℕ → ℕ
ape_length bytes = 32 + ape_size bytes

-- ---- a block of any kind

-- the bytes begin with a block of this kind
abbrev pub begins : Kind → List ℕ → Bool
begins Id3v2 bytes = is_id3v2 bytes
begins Id3v1 bytes = is_id3v1 bytes
begins Ape bytes = is_ape bytes

-- the length in bytes of the block of this kind with which the bytes begin
abbrev pub length_of_kind : Kind → List ℕ → ℕ
length_of_kind Id3v2 bytes = id3v2_length bytes
length_of_kind Id3v1 bytes = 128
length_of_kind Ape bytes = ape_length bytes

-- the block of this kind with which the bytes begin
abbrev pub block_of_kind : Kind → List ℕ → Option Block
block_of_kind kind bytes =
    if begins kind bytes then Some (record { kind = kind; length = length_of_kind kind bytes })
    else None

-- the block with which the bytes begin, with its whole length; the bytes begin with one kind at
-- most
unfoldable pub block_front : List ℕ → Option Block
block_front bytes =
    option_or (option_or (block_of_kind Id3v2 bytes) (block_of_kind Id3v1 bytes))
    (block_of_kind Ape bytes)
