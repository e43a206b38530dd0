-- The 32 bits of a header (ISO/IEC 11172-3 and 13818-3, 2.4.1.3 and 2.4.2.3).
use Rattle.std.specs.Prelude.{Bool, Err, if◌then◌else◌, List, None, not, Ok, Option, Result, Some}
use Rattle.std.specs.Prelude.{ℕ, ◌&&◌, ◌==◌}
use Rattle.bit_fields.specs.{Bits.bits, Groups.group}
use Rattle.frame_header.specs.{Fields.{ClassFields, HeaderFields, same_class}, Tables.class_of}
use Rattle.frame_header.specs.declared.header.NotHeader.{NotHeader, TheVariants.{Free, No}}
use Rattle.frame_header.specs.declared.version.Version.{Version, TheVariants.{One, Two, TwoFive}}

-- groups of these 32 bits; first the twelfth bit and ID
abbrev pub version_bits : List ℕ → ℕ
version_bits h = group 11 2 h

-- the bit that is 0 where a check word follows the header
abbrev pub protection_bit : List ℕ → ℕ
protection_bit h = group 15 1 h

-- the bit rate index
abbrev pub rate_bits : List ℕ → ℕ
rate_bits h = group 16 4 h

-- the sampling frequency index
abbrev pub frequency_bits : List ℕ → ℕ
frequency_bits h = group 20 2 h

-- the first 11 bits, the sync word that all versions share, are ones; the twelfth is 1, or it and
-- ID are both 0; the layer, of two bits, is III; the bit rate isn't the forbidden one and the
-- frequency isn't the reserved one; all other bits are free
unfoldable pub is_readable : List ℕ → Bool
is_readable h = (group 0 11 h == 2047) && not (version_bits h == 1) && (group 13 2 h == 1)
    && not (rate_bits h == 15) && not (frequency_bits h == 3)

-- MPEG-1 where ID is 1; otherwise MPEG-2, the lower sampling frequencies, where the twelfth bit is
-- 1, and where it is 0 MPEG-2.5, which is in no standard, as LAME writes it and decoders read it
abbrev pub version_of : List ℕ → Version
version_of h = if version_bits h == 3 then One else (if version_bits h == 2 then Two else TwoFive)

-- the fields in these 32 bits
unfoldable pub header_fields : List ℕ → HeaderFields
header_fields h = record {
  version = version_of h;
  protected = protection_bit h == 0;
  slot = record { rate_index = rate_bits h; padding = group 22 1 h == 1 };
  frequency_index = frequency_bits h;
  private_bit = group 23 1 h == 1;
  mode = group 24 2 h;
  mode_extension = group 26 2 h;
  copyright = group 28 1 h == 1;
  original = group 29 1 h == 1;
  emphasis = group 30 2 h;
}

-- the header that 32 bits are, if they are readable and not free format
unfoldable pub header_in : List ℕ → Result HeaderFields NotHeader
header_in h =
    if is_readable h then (if rate_bits h == 0 then Err Free else Ok (header_fields h)) else Err No

-- the header that four bytes are
unfoldable pub header_at : List ℕ → Result HeaderFields NotHeader
header_at four = header_in (bits four)

-- the same header, if it is of this class
abbrev pub header_of_class : ClassFields → Result HeaderFields NotHeader → Option HeaderFields
header_of_class class (Ok h) = if same_class (class_of h) class then Some h else None
header_of_class class (Err why) = None
