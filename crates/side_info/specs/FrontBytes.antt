-- A frame's header and side information, as the four and up to 32 bytes that hold them (ISO/IEC
-- 11172-3 and 13818-3, 2.4.1.3 and 2.4.1.7).
use Rattle.std.specs.Prelude.{drop, length, List, replicate, take, ℕ, ◌++◌, ◌+◌, ◌≡◌, ◌≤◌}
use Rattle.bit_fields.specs.{Bits.{AreBytes, bits, bytes}, Groups.group}
use Rattle.frame_header.specs.Fields.{ClassFields, HeaderFields, IsHeader, IsSlot, SlotFields}
use Rattle.frame_header.specs.{HeaderBits.header_bits, Reading.header_fields}
use Rattle.frame_header.specs.{Tables.{class_of, side_size_of}, declared.version.Version.Version}
use Rattle.frame_header.specs.declared.version.Version.TheVariants.{One, Two, TwoFive}
use Rattle.side_info.specs.{Frame.{crc_part, side_in, side_offset}, FrameFields.FrameFields}
use Rattle.side_info.specs.Side.{payload_bits, side_at, side_bits, SideFits}
use Rattle.side_info.specs.declared.frame_front.{Extent.Extent, FrameFront.TheInside.Inside}
use Rattle.side_info.specs.declared.side.Side.{Side}

-- how many bits main_data_begin has
abbrev pub begin_width : Version → ℕ
begin_width One = 9
begin_width Two = 8
begin_width TwoFive = 8

-- the bits of two headers are the same except bitrate_index, padding_bit and mode_extension, the
-- sync bits and the layer
pub record AreHeadersAlike (bs cs : List ℕ) : Type 0 where
  pub version : group 11 2 bs ≡ group 11 2 cs
  pub protection : group 15 1 bs ≡ group 15 1 cs
  pub frequency : group 20 2 bs ≡ group 20 2 cs
  pub private : group 23 1 bs ≡ group 23 1 cs
  pub mode : group 24 2 bs ≡ group 24 2 cs
  pub copyright : group 28 1 bs ≡ group 28 1 cs
  pub original : group 29 1 bs ≡ group 29 1 cs
  pub emphasis : group 30 2 bs ≡ group 30 2 cs

-- n bits of a header from bit `at` on, at most four
pub record AreInHeader (at n : ℕ) : Type 0 where
  pub some : 1 ≤ n
  pub within : at + n ≤ 32
  pub few : n ≤ 4

-- these bytes, followed by zeros up to 32 bytes
unfoldable pub padded_side : List ℕ → List ℕ
padded_side side = side ++ drop (length side) (replicate 32 0)

-- the bytes of the side information with which 32 bytes begin
unfoldable pub own_side : ClassFields → List ℕ → List ℕ
own_side c room = take (side_size_of c) room

-- the header that the four bytes are
unfoldable pub header_of : Inside → HeaderFields
header_of a = header_fields (bits a.header)

-- the side information with which the 32 bytes begin
unfoldable pub side_of : Inside → Side
side_of a = side_at (class_of (header_of a)) (bits (own_side (class_of (header_of a)) a.side))

-- the header and the side information that the bytes hold
abbrev pub front_view : Inside → FrameFields
front_view a = record { header = header_of a; side = side_of a }

-- the bytes that these fields are written as
abbrev pub front_inside : FrameFields → Inside
front_inside f = record {
  header = bytes (header_bits f.header);
  side = padded_side (bytes (side_bits (class_of f.header) f.side));
}

-- the bytes are a header without forbidden values and side information, with zeros after it
pub record AreFrontBytes (a : Inside) : Type 0 where
  pub known : IsHeader (header_of a)
  pub same : front_inside (front_view a) ≡ a

-- where the main data of a frame begin, and how long they are
pub record IsExtent (s : Side) (e : Extent) : Type 0 where
  pub begin : e.begin ≡ s.main_data_begin
  pub bits : e.bits ≡ payload_bits s

-- f is this header and the side information of this frame, whose fields are within their bits
pub record IsFrontOf (h : HeaderFields) (frame : List ℕ) (f : FrameFields) : Type 0 where
  pub front : f ≡ record { header = h; side = side_in h frame }
  pub fits : SideFits (class_of h) f.side

-- 32 bytes that are side information with zeros after it
pub record IsRoomOf (c : ClassFields) (s : Side) (all : List ℕ) : Type 0 where
  pub room : all ≡ padded_side (bytes (side_bits c s))
  pub size : length (bytes (side_bits c s)) ≡ side_size_of c
  pub back : side_at c (bits (bytes (side_bits c s))) ≡ s

-- the bytes of a header get this slot
pub record PutsSlot (slot : SlotFields) (old new : List ℕ) : Type 0 where
  pub bits : (h : HeaderFields) → bits old ≡ header_bits h
      → bits new ≡ header_bits (record h { slot = slot })
  pub octets : AreBytes new
  pub known : IsSlot slot

-- the first n bytes are the header and, for a protected frame, the check word
pub record HasHeaderPart (f : FrameFields) (n : ℕ) (room : List ℕ) : Type 0 where
  pub offset : n ≡ side_offset f.header.protected
  pub head : take n room ≡ bytes (header_bits f.header) ++ crc_part f.header f.side

-- 32 zeros, over which these bytes may be written
pub record AreZerosFor (part room : List ℕ) : Type 0 where
  pub short : length part ≤ 32
  pub zeros : room ≡ replicate 32 0
