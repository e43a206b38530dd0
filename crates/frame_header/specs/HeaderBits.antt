-- The 32 bits that a header is written as (ISO/IEC 11172-3 and 13818-3, 2.4.1.3 and 2.4.2.3).
use Rattle.std.specs.Prelude.{Bool, if◌then◌else◌, List, ℕ, [], ◌∷◌}
use Rattle.bit_fields.specs.Groups.{group_bits}
use Rattle.frame_header.specs.Fields.{HeaderFields, version_number}

-- the widths in bits of the fields: the first 11 bits of the syncword, its twelfth with ID, layer,
-- protection_bit, bitrate_index, sampling_frequency, padding_bit, private_bit, mode,
-- mode_extension, copyright, original and emphasis
abbrev pub header_widths : List ℕ
header_widths = 11 ∷ 2 ∷ 2 ∷ 1 ∷ 4 ∷ 2 ∷ 1 ∷ 1 ∷ 2 ∷ 2 ∷ 1 ∷ 1 ∷ 2 ∷ []

-- a flag as a bit
abbrev pub flag_of : Bool → ℕ
flag_of flag = if flag then 1 else 0

-- protection_bit is 0 where a check word follows
abbrev pub protection_of : Bool → ℕ
protection_of protected = if protected then 0 else 1

-- the numbers of these groups; the first 11 bits are ones, and layer III is 01
unfoldable pub header_numbers : HeaderFields → List ℕ
header_numbers h =
    2047 ∷ version_number h.version ∷ 1 ∷ protection_of h.protected ∷ h.slot.rate_index
    ∷ h.frequency_index ∷ flag_of h.slot.padding ∷ flag_of h.private_bit ∷
    h.mode ∷ h.mode_extension ∷ flag_of h.copyright ∷ flag_of h.original ∷ h.emphasis ∷ []

-- the 32 bits of a header
unfoldable pub header_bits : HeaderFields → List ℕ
header_bits h = group_bits header_widths (header_numbers h)
