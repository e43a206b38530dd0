-- The parts of the side information that are read and written in order (ISO/IEC 11172-3 and
-- 13818-3, 2.4.1.7 and 2.4.2.7).
use Rattle.std.specs.Prelude.{drop, flat_map, if◌then◌else◌, length, List, slice_index}
use Rattle.std.specs.Prelude.{slice_index_or, sum, take, ℕ, [], ◌*◌, ◌++◌, ◌+◌, ◌<◌, ◌==◌, ◌∷◌, ◌≡◌}
use Rattle.std.specs.Prelude.{◌≤◌}
use Rattle.bit_fields.specs.Groups.{group_bits, numbers_at}
use Rattle.frame_header.specs.{Fields.ClassFields, Tables.granules_of}
use Rattle.frame_header.specs.declared.version.Version.{Version}
use Rattle.side_info.specs.Granule.{AreGranulesAlike, granule_at, granule_bits, granule_size}
use Rattle.side_info.specs.{Granule.{GranuleFits, no_granule}, Side.front_widths_of}
use Rattle.side_info.specs.declared.{front.Front.Front, granule.Granule.Granule, side.Side.Side}

-- the fields before the granules, from their numbers
unfoldable pub front_of_numbers : List ℕ → Front
front_of_numbers front = record {
  main_data_begin = slice_index front 0;
  private_bits = slice_index front 1;
  scfsi = slice_index front 2 ∷ slice_index front 3 ∷ [];
}

-- the fields before the granules, with which these bits begin; one that the class lacks is 0
abbrev pub front_at : Version → ℕ → List ℕ → Front
front_at version channels bs = front_of_numbers (numbers_at (front_widths_of version channels) bs)

-- widths of these fields, none of them wider than in any class
pub record AreFrontWidths (begin private_bits first second : ℕ) : Type 0 where
  pub begin_is : begin ≤ 9
  pub private_is : private_bits ≤ 5
  pub first_is : first ≤ 4
  pub second_is : second ≤ 4

-- how many bits these fields take
abbrev pub front_size : Version → ℕ → ℕ
front_size version channels = sum (front_widths_of version channels)

-- the bits of these fields
abbrev pub front_bits : Version → ℕ → Side → List ℕ
front_bits version channels s =
    group_bits (front_widths_of version channels) (s.main_data_begin ∷ s.private_bits ∷ s.scfsi)

-- a granule that the class lacks: all fields of both channels are 0
abbrev pub no_pair : List Granule
no_pair = no_granule ∷ no_granule ∷ []

-- the channels of the granule with which these bits begin; one that the class lacks is all 0
abbrev pub pair_at : Version → ℕ → List ℕ → List Granule
pair_at version channels bs = granule_at version bs
    ∷ (if channels == 1 then no_granule else granule_at version (drop (granule_size version) bs))
    ∷ []

-- the channels of the second granule, which MPEG-1 alone has; all 0 in the other versions
abbrev pub second_pair_at : Version → ℕ → List ℕ → List Granule
second_pair_at version channels bs =
    if granules_of version == 1 then no_pair else pair_at version channels bs

-- a class with this version and number of channels, on which alone the side information depends
abbrev pub class_with : Version → ℕ → ℕ → ClassFields
class_with version frequency_index channels =
    record { version = version; frequency_index = frequency_index; channels = channels }

-- one channel, or two
pub record AreChannels (channels : ℕ) : Type 0 where
  pub some : 1 ≤ channels
  pub few : channels ≤ 2

-- the fields of both granules are within their bits, in each channel that is present
pub record PairsFit (version : Version) (channels : ℕ) (gs hs : List Granule) : Type 0 where
  pub left : GranuleFits version (slice_index_or gs 0 no_granule)
  pub right : channels ≡ 2 → GranuleFits version (slice_index_or gs 1 no_granule)
  pub second_left : granules_of version ≡ 2 → GranuleFits version (slice_index_or hs 0 no_granule)
  pub second_right : granules_of version ≡ 2 → channels ≡ 2
      → GranuleFits version (slice_index_or hs 1 no_granule)

-- the bits of a granule's channels
abbrev pub pair_bits : Version → ℕ → List Granule → List ℕ
pair_bits version channels gs = flat_map (granule_bits version) (take channels gs)

-- the bits of the second granule's channels; none where the version has one granule
abbrev pub second_pair_bits : Version → ℕ → List Granule → List ℕ
second_pair_bits version channels gs =
    if granules_of version == 1 then [] else pair_bits version channels gs

-- the channels of two granules differ in no field but global_gain
abbrev pub ArePairsAlike : List Granule → List Granule → Type 0
ArePairsAlike gs hs = (channel : ℕ)
    → AreGranulesAlike (slice_index_or gs channel no_granule) (slice_index_or hs channel no_granule)

-- the gains of `hs` are put in at bit `at`, if a granule begins there whose channels differ from
-- `hs` in gains alone
abbrev pub PutsPair : (List Granule → List ℕ) → List Granule → ℕ → List ℕ → List ℕ → Type 0
PutsPair bits_of_pair hs at old new =
    (gs : List Granule) (before after : List ℕ) → length gs ≡ 2 → length before ≡ at
    → old ≡ before ++ (bits_of_pair gs ++ after) → ArePairsAlike gs hs
    → new ≡ before ++ (bits_of_pair hs ++ after)

-- fields of `width` bits and two granules of `size` bits after them are 17 bytes together: the
-- first granule ends in the second eight bytes
pub record AreWidths (width size : ℕ) : Type 0 where
  pub some : 1 ≤ width
  pub few : width < 64
  pub long : 64 ≤ size + width
  pub whole : width + 2 * size ≡ 136
