-- The tables of the standard (ISO/IEC 11172-3 and 13818-3): rates and
-- frequencies (2.4.2.3), the rule of the frame length (2.4.3.1), the size of the
-- side information (2.4.1.7) and how far back main data may begin (2.4.2.7).
use Rattle.std.specs.Prelude.{Bool, if◌then◌else◌, List, slice_index, ℕ, [], ◌*◌, ◌+◌, ◌-◌, ◌/◌}
use Rattle.std.specs.Prelude.{◌==◌, ◌∷◌}
use Rattle.frame_header.specs.Fields.{ClassFields, HeaderFields, SlotFields}
use Rattle.frame_header.specs.declared.version.Version.{Version, TheVariants.{One, Two, TwoFive}}

-- bit rates in kbit/s, for the indexes 1 to 14
abbrev pub rates : Version → List ℕ
rates One = 32 ∷ 40 ∷ 48 ∷ 56 ∷ 64 ∷ 80 ∷ 96 ∷ 112 ∷ 128 ∷ 160 ∷ 192 ∷ 224 ∷ 256 ∷ 320 ∷ []
rates Two = 8 ∷ 16 ∷ 24 ∷ 32 ∷ 40 ∷ 48 ∷ 56 ∷ 64 ∷ 80 ∷ 96 ∷ 112 ∷ 128 ∷ 144 ∷ 160 ∷ []
rates TwoFive = 8 ∷ 16 ∷ 24 ∷ 32 ∷ 40 ∷ 48 ∷ 56 ∷ 64 ∷ 80 ∷ 96 ∷ 112 ∷ 128 ∷ 144 ∷ 160 ∷ []

-- sampling frequencies in Hz, for the indexes 0 to 2
abbrev pub frequencies : Version → List ℕ
frequencies One = 44100 ∷ 48000 ∷ 32000 ∷ []
frequencies Two = 22050 ∷ 24000 ∷ 16000 ∷ []
frequencies TwoFive = 11025 ∷ 12000 ∷ 8000 ∷ []

-- how many granules a frame has (2.4.1.7)
abbrev pub granules_of : Version → ℕ
granules_of One = 2
granules_of Two = 1
granules_of TwoFive = 1

-- how many samples a frame has in each channel, 576 for each granule
abbrev pub samples_of : Version → ℕ
samples_of version = 576 * granules_of version

-- an eighth of the samples, which is a frame's bytes at one bit a sample: the standard's 144, and
-- 72 for one granule
abbrev pub length_factor : Version → ℕ
length_factor version = 72 * granules_of version

-- how many bytes before a frame's own area its main data may begin: the greatest main_data_begin
abbrev pub window_of : Version → ℕ
window_of One = 511
window_of Two = 255
window_of TwoFive = 255

-- the length of the side information in bytes, by version and channels
abbrev pub side_bytes_of : Version → ℕ → ℕ
side_bytes_of One channels = if channels == 1 then 17 else 32
side_bytes_of Two channels = if channels == 1 then 9 else 17
side_bytes_of TwoFive channels = if channels == 1 then 9 else 17

-- a slot's bit rate in kbit/s
unfoldable pub rate_of : ClassFields → SlotFields → ℕ
rate_of c s = slice_index (rates c.version) (s.rate_index - 1)

-- the sampling frequency in Hz
unfoldable pub frequency_of : ClassFields → ℕ
frequency_of c = slice_index (frequencies c.version) c.frequency_index

-- the length of the side information in bytes
unfoldable pub side_size_of : ClassFields → ℕ
side_size_of c = side_bytes_of c.version c.channels

-- the number of a version, for a table that has rows for each version
abbrev pub version_index : Version → ℕ
version_index One = 0
version_index Two = 1
version_index TwoFive = 2

-- the length of a frame in bytes: the factor times the bit rate in bit/s, divided by the frequency
-- and rounded down, plus the padding
unfoldable pub length_of : ClassFields → SlotFields → ℕ
length_of c s =
    (length_factor c.version * (1000 * rate_of c s)) / frequency_of c + (if s.padding then 1 else 0)

-- how many bytes are before the area: the header, the check word of a protected frame, and the side
-- information (2.4.1)
unfoldable pub overhead_of : ClassFields → Bool → ℕ
overhead_of c protected = 4 + (if protected then 2 else 0) + side_size_of c

-- the length in bytes of a frame's area, which holds main data
unfoldable pub area_of : ClassFields → SlotFields → Bool → ℕ
area_of c s protected = length_of c s - overhead_of c protected

-- the class of a header: one channel in mode 3, otherwise two
abbrev pub class_of : HeaderFields → ClassFields
class_of h = record {
  version = h.version;
  frequency_index = h.frequency_index;
  channels =
      if h.mode == 3 then 1 else 2;
}
