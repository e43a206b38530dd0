-- The side information of a frame (ISO/IEC 11172-3 and 13818-3, 2.4.1.7 and 2.4.2.7).
use Rattle.std.specs.Prelude.{Bool, drop, flat_map, if◌then◌else◌, List, MatchBool, nat_lt}
use Rattle.std.specs.Prelude.{slice_index, slice_index_or, sum, sum_by, take, ℕ, [], ◌&&◌, ◌*◌}
use Rattle.std.specs.Prelude.{◌++◌, ◌+◌, ◌/◌, ◌<◌, ◌==◌, ◌^◌, ◌∷◌, ◌≡◌}
use Rattle.bit_fields.specs.{Bits.bits, Groups.{group_bits, numbers_at}}
use Rattle.frame_header.specs.{Fields.ClassFields, Tables.granules_of}
use Rattle.frame_header.specs.declared.version.Version.{Version, TheVariants.{One, Two, TwoFive}}
use Rattle.side_info.specs.Granule.{AreGranulesAlike, granule_at, granule_bits, granule_size}
use Rattle.side_info.specs.{Granule.{GranuleFits, no_granule}, declared.granule.Granule.Granule}
use Rattle.side_info.specs.declared.side.Side.{Side}

-- the widths in bits of main_data_begin, the private bits, and
-- the scfsi of each channel; 0 for one that the class lacks
abbrev pub front_widths_of : Version → ℕ → List ℕ
front_widths_of One channels = if channels == 1 then 9 ∷ 5 ∷ 4 ∷ 0 ∷ [] else 9 ∷ 3 ∷ 4 ∷ 4 ∷ []
front_widths_of Two channels = if channels == 1 then 8 ∷ 1 ∷ 0 ∷ 0 ∷ [] else 8 ∷ 2 ∷ 0 ∷ 0 ∷ []
front_widths_of TwoFive channels = if channels == 1 then 8 ∷ 1 ∷ 0 ∷ 0 ∷ [] else 8 ∷ 2 ∷ 0 ∷ 0 ∷ []

-- the widths of these fields, for a class
abbrev pub front_widths : ClassFields → List ℕ
front_widths c = front_widths_of c.version c.channels

-- all fields 0
abbrev pub no_side : Side
no_side = record {
  main_data_begin = 0;
  private_bits = 0;
  scfsi = 0 ∷ 0 ∷ [];
  granules =
      (no_granule ∷ no_granule ∷ []) ∷ (no_granule ∷ no_granule ∷ []) ∷ [];
}

-- the granule and channel after n others
abbrev pub nth_granule : Version → ℕ → List ℕ → Granule
nth_granule version n bs = granule_at version (drop (n * granule_size version) bs)

-- the channels of one granule, the first of which is after n others; one that the class lacks is
-- all 0
abbrev pub channels_at : ClassFields → ℕ → List ℕ → List Granule
channels_at c n bs = nth_granule c.version n bs
    ∷ (if c.channels == 1 then no_granule else nth_granule c.version (n + 1) bs) ∷ []

-- granule 0 with its channels, then granule 1, which MPEG-1 alone has
abbrev pub granules_at : ClassFields → List ℕ → List (List Granule)
granules_at c bs = channels_at c 0 bs ∷ (if granules_of c.version == 1
    then no_granule ∷ no_granule ∷ [] else channels_at c c.channels bs) ∷ []

-- the fields of the side information in these bits; one that the class lacks is 0
unfoldable pub side_at : ClassFields → List ℕ → Side
side_at c bs = let front = numbers_at (front_widths c) bs in record {
  main_data_begin = slice_index front 0;
  private_bits = slice_index front 1;
  scfsi = slice_index front 2 ∷ slice_index front 3 ∷ [];
  granules = granules_at c (drop (sum (front_widths c)) bs);
}

-- the granules and channels that the class has, in order
unfoldable pub granules_in : ClassFields → Side → List Granule
granules_in c s = flat_map (take c.channels) (take (granules_of c.version) s.granules)

-- the bits of the fields of the side information
unfoldable pub side_bits : ClassFields → Side → List ℕ
side_bits c s =
    group_bits (front_widths c) (s.main_data_begin ∷ s.private_bits ∷ s.scfsi)
    ++ flat_map (granule_bits c.version) (granules_in c s)

-- one channel of a granule; all 0 past the two granules and two channels
abbrev pub granule_in : Side → ℕ → ℕ → Granule
granule_in s granule channel =
    slice_index_or (slice_index_or s.granules granule []) channel no_granule

-- the class has this granule and channel
abbrev pub has_granule : ClassFields → ℕ → ℕ → Bool
has_granule c granule channel = nat_lt granule (granules_of c.version) && nat_lt channel c.channels

-- the width in bits of a field before the granules, 0 for one that the class lacks
abbrev pub front_width : ClassFields → ℕ → ℕ
front_width c field = slice_index (front_widths c) field

-- each field is within its bits for the class, and one that the class lacks is 0
pub record SideFits (c : ClassFields) (s : Side) : Type 0 where
  pub main_data_begin : s.main_data_begin < 2 ^ front_width c 0
  pub private_bits : s.private_bits < 2 ^ front_width c 1
  pub scfsi : (channel : ℕ) → slice_index s.scfsi channel < 2 ^ front_width c (2 + channel)
  pub granules : (granule channel : ℕ) → MatchBool (has_granule c granule channel) (GranuleFits
      c.version (granule_in s granule channel)) (granule_in s granule channel ≡ no_granule)

-- the fields before the granules are within the bits that a class with this version and number of
-- channels has for them
pub record FrontFits (version : Version) (channels : ℕ) (s : Side) : Type 0 where
  pub begin : s.main_data_begin < 2 ^ slice_index (front_widths_of version channels) 0
  pub private_bits : s.private_bits < 2 ^ slice_index (front_widths_of version channels) 1
  pub scfsi : (channel : ℕ) → slice_index s.scfsi channel
      < 2 ^ slice_index (front_widths_of version channels) (2 + channel)

-- the fields before the granules are within their bits for the class, as the code tests them
abbrev pub FieldsWithin : ClassFields → Side → Type 0
FieldsWithin c s =
    (s.main_data_begin < 2 ^ front_width c 0) × (s.private_bits < 2 ^ front_width c 1)
    × (slice_index s.scfsi 0 < 2 ^ front_width c 2) × (slice_index s.scfsi 1 < 2 ^ front_width c 3)

-- the fields of both channels of a granule are within
-- their bits, or all 0 where the class lacks the channel
abbrev pub PairFits : ClassFields → ℕ → List Granule → Type 0
PairFits c granule gs =
    MatchBool (has_granule c granule 0) (GranuleFits c.version (slice_index_or gs 0 no_granule))
    (slice_index_or gs 0 no_granule ≡ no_granule)
    × MatchBool (has_granule c granule 1) (GranuleFits c.version (slice_index_or gs 1 no_granule))
    (slice_index_or gs 1 no_granule ≡ no_granule)

-- the two differ in no field but the gains
pub record HasOtherGains (s t : Side) : Type 0 where
  pub main_data_begin : t.main_data_begin ≡ s.main_data_begin
  pub private_bits : t.private_bits ≡ s.private_bits
  pub scfsi : t.scfsi ≡ s.scfsi
  pub granules : (granule channel : ℕ)
      → AreGranulesAlike (granule_in s granule channel) (granule_in t granule channel)

-- the length of a frame's main data in bits: the sum of all part2_3_length (2.4.2.7)
unfoldable pub payload_bits : Side → ℕ
payload_bits s = sum_by
    (λ (channels : List Granule). sum_by (λ (g : Granule). g.part2_3_length) channels) s.granules

-- the length of a frame's main data in bytes, rounded up
unfoldable pub payload_bytes : Side → ℕ
payload_bytes s = (payload_bits s + 7) / 8

-- the side information that these bytes are
pub record IsSideOf (c : ClassFields) (part : List ℕ) (s : Side) : Type 0 where
  pub side : s ≡ side_at c (bits part)
  pub fits : SideFits c s
  -- what is written back is what was read
  pub back : side_bits c s ≡ bits part
