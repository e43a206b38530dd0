-- The side information of one granule and channel, as successive
-- groups of bits (ISO/IEC 11172-3 and 13818-3, 2.4.1.7 and 2.4.2.7).
use Rattle.std.specs.Prelude.{Bool, false, List, slice_index, sum, ℕ, [], ◌<◌, ◌==◌, ◌^◌, ◌∷◌, ◌≡◌}
use Rattle.bit_fields.specs.Groups.{group_bits, numbers_at}
use Rattle.frame_header.specs.{HeaderBits.flag_of, declared.version.Version.Version}
use Rattle.frame_header.specs.declared.version.Version.TheVariants.{One, Two, TwoFive}
use Rattle.side_info.specs.declared.granule.Granule.{Granule}

-- how many bits scalefac_compress has
abbrev pub compress_width : Version → ℕ
compress_width One = 4
compress_width Two = 9
compress_width TwoFive = 9

-- how many bits preflag has; MPEG-1 alone has it
abbrev pub preflag_width : Version → ℕ
preflag_width One = 1
preflag_width Two = 0
preflag_width TwoFive = 0

-- the width in bits of part2_3_length, big_values, global_gain, scalefac_compress,
-- window_switching_flag, the 22 bits of detail after it, preflag, scalefac_scale and
-- count1table_select, 59 bits together and 63 in MPEG-2 and MPEG-2.5; 0 for a field that the
-- version lacks
abbrev pub granule_widths : Version → List ℕ
granule_widths version =
    12 ∷ 9 ∷ 8 ∷ compress_width version ∷ 1 ∷ 22 ∷ preflag_width version ∷ 1 ∷ 1 ∷ []

-- how many bits one granule and channel has
abbrev pub granule_size : Version → ℕ
granule_size version = sum (granule_widths version)

-- a bit as a flag
abbrev pub is_set : ℕ → Bool
is_set bit = bit == 1

-- all fields 0, as for a granule or channel that the class lacks
abbrev pub no_granule : Granule
no_granule = record {
  part2_3_length = 0;
  big_values = 0;
  global_gain = 0;
  scalefac_compress = 0;
  window_switching = false;
  detail = 0;
  preflag = false;
  scalefac_scale = false;
  count1table_select = false;
}

-- a granule's fields, from the numbers of the groups
unfoldable pub granule_of : List ℕ → Granule
granule_of ns = record {
  part2_3_length = slice_index ns 0;
  big_values = slice_index ns 1;
  global_gain = slice_index ns 2;
  scalefac_compress = slice_index ns 3;
  window_switching = is_set (slice_index ns 4);
  detail = slice_index ns 5;
  preflag = is_set (slice_index ns 6);
  scalefac_scale = is_set (slice_index ns 7);
  count1table_select = is_set (slice_index ns 8);
}

-- the numbers of the groups, from a granule's fields
unfoldable pub granule_numbers : Granule → List ℕ
granule_numbers g =
    g.part2_3_length ∷ g.big_values ∷ g.global_gain ∷ g.scalefac_compress
    ∷ flag_of g.window_switching ∷ g.detail ∷
    flag_of g.preflag ∷ flag_of g.scalefac_scale ∷ flag_of g.count1table_select ∷ []

-- the granule with which these bits begin
unfoldable pub granule_at : Version → List ℕ → Granule
granule_at version bs = granule_of (numbers_at (granule_widths version) bs)

-- the bits of a granule
unfoldable pub granule_bits : Version → Granule → List ℕ
granule_bits version g = group_bits (granule_widths version) (granule_numbers g)

-- each field is within its bits, given the widths of scalefac_compress and preflag
pub record FieldsFit (compress_bits preflag_bits : ℕ) (g : Granule) : Type 0 where
  pub part2_3_length : g.part2_3_length < 2 ^ 12
  pub big_values : g.big_values < 2 ^ 9
  pub global_gain : g.global_gain < 2 ^ 8
  pub scalefac_compress : g.scalefac_compress < 2 ^ compress_bits
  pub detail : g.detail < 2 ^ 22
  pub preflag : flag_of g.preflag < 2 ^ preflag_bits

-- each field is within its bits, and one that the version lacks is 0
abbrev pub GranuleFits : Version → Granule → Type 0
GranuleFits version g = FieldsFit (compress_width version) (preflag_width version) g

-- the two granules differ in no field but global_gain
abbrev pub AreGranulesAlike : Granule → Granule → Type 0
AreGranulesAlike g h = record g { global_gain = h.global_gain } ≡ h
