-- What contracts see of a header, a class and a slot (ISO/IEC 11172-3 and 13818-3, 2.4.2.3).
use Rattle.std.specs.Prelude.{Bool, ℕ, ◌&&◌, ◌==◌, ◌≤◌}
use Rattle.frame_header.specs.declared.version.Version.{Version, TheVariants.{One, Two, TwoFive}}

-- what decides a frame's length within a class: a bit rate index and the padding bit
pub record SlotFields : Type 0 where
  pub rate_index : ℕ
  pub padding : Bool

-- what all frames of one stream share: version, frequency index and number of channels
pub record ClassFields : Type 0 where
  pub version : Version
  pub frequency_index : ℕ
  pub channels : ℕ

-- the two bits of a header that distinguish the versions and by which versions are compared: the
-- twelfth, which is 0 in MPEG-2.5 alone, and ID, which is 1 in MPEG-1 alone
abbrev pub version_number : Version → ℕ
version_number One = 3
version_number Two = 2
version_number TwoFive = 0

-- version, sampling frequency and number of channels are the same
unfoldable pub same_class : ClassFields → ClassFields → Bool
same_class c d = (version_number c.version == version_number d.version)
    && (c.frequency_index == d.frequency_index) && (c.channels == d.channels)

-- the fields of a header, except the first 11 bits and the layer, which are the same in all
pub record HeaderFields : Type 0 where
  pub version : Version
  pub protected : Bool
  pub slot : SlotFields
  pub frequency_index : ℕ
  pub private_bit : Bool
  pub mode : ℕ
  pub mode_extension : ℕ
  pub copyright : Bool
  pub original : Bool
  pub emphasis : ℕ

-- the bit rate index is neither 0 (free format) nor 15 (forbidden)
abbrev pub IsSlot : SlotFields → Type 0
IsSlot s = (1 ≤ s.rate_index) × (s.rate_index ≤ 14)

-- a frequency index that isn't reserved, and one channel or two
abbrev pub IsClass : ClassFields → Type 0
IsClass c = (c.frequency_index ≤ 2) × (1 ≤ c.channels) × (c.channels ≤ 2)

-- Each field is within its bits, and neither bit rate nor frequency has a forbidden or reserved
-- value. Emphasis may have any value, even the reserved 2.
pub record IsHeader (h : HeaderFields) : Type 0 where
  pub slot : IsSlot h.slot
  pub frequency_index : h.frequency_index ≤ 2
  pub mode : h.mode ≤ 3
  pub mode_extension : h.mode_extension ≤ 3
  pub emphasis : h.emphasis ≤ 3
