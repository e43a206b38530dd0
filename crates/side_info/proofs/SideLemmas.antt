-- The laws of the side information: fields and bits give each other back.
use Rattle.std.proofs.Common.{append-nil, arith, drop, get_or, length, length-append, length-drop}
use Rattle.std.proofs.Common.{List, refl, suc, sum, sym, take-append-drop, take_all, zero, ℕ, []}
use Rattle.std.proofs.Common.{◌*◌, ◌++◌, ◌+◌, ◌/◌, ◌<◌, ◌^◌, ◌∙◌, ◌∷◌, ◌≡◌, ◌≤◌}
use Rattle.std.{proofs.{Math.Nat.{zero-add, zero-mul}, lemmas.List.drop_at}, specs.Bool.MatchBool}
use Rattle.std.specs.{Int.div_ceil, List.{flat_map, sum_by}}
use Rattle.bit_fields.proofs.BitsLemmas.{AreBelow-append, AreBelow-drop, AreBits-bits, length-bits}
use Rattle.bit_fields.proofs.GroupsLemmas.{AreBits-group_bits, group_bits-numbers_at_front}
use Rattle.bit_fields.proofs.GroupsLemmas.{length-group_bits, numbers_at-group_bits_more}
use Rattle.bit_fields.{proofs.GroupsLemmas.NumbersFit-numbers_at, specs.Bits.{AreBits, bits}}
use Rattle.bit_fields.specs.Groups.{group_bits, numbers_at, NumbersFit}
use Rattle.frame_header.specs.{Fields.{ClassFields, IsClass}, Tables.{granules_of, side_size_of}}
use Rattle.frame_header.specs.declared.version.Version.{Version, TheVariants.{One, Two, TwoFive}}
use Rattle.side_info.proofs.GranuleLemmas.{AreBits-flat, flat-granules_from, GranuleFits-granule_at}
use Rattle.side_info.proofs.GranuleLemmas.{granules_from, length-flat, nth_granule-flat}
use Rattle.side_info.specs.Granule.{granule_at, granule_bits, granule_size, GranuleFits, no_granule}
use Rattle.side_info.specs.Parts.{class_with}
use Rattle.side_info.specs.Side.{front_width, front_widths, granule_in, granules_at, granules_in}
use Rattle.side_info.specs.Side.{has_granule, IsSideOf, no_side, nth_granule, payload_bits}
use Rattle.side_info.specs.Side.{payload_bytes, side_at, side_bits, SideFits}
use Rattle.side_info.specs.declared.{granule.Granule.Granule, side.Side.Side}

-- ---- the combinations of version and channels
-- MPEG-2.5 has the same side information as MPEG-2
module _ (P : ClassFields → Type 0) (one_mono : (f : ℕ) → P (class_with One f 1))
    (one_stereo : (f : ℕ) → P (class_with One f 2)) (two_mono : (f : ℕ) → P (class_with Two f 1))
    (two_stereo : (f : ℕ) → P (class_with Two f 2)) (as_two : (f channels : ℕ)
    → P (class_with Two f channels) → P (class_with TwoFive f channels)) where
  by_channels : (version : Version) (f channels : ℕ) → 1 ≤ channels → channels ≤ 2
      → P (class_with version f channels)
  by_channels version f zero low high = absurd (omega arith)
  by_channels One f (suc zero) low high = one_mono f
  by_channels Two f (suc zero) low high = two_mono f
  by_channels TwoFive f (suc zero) low high = as_two f 1 (two_mono f)
  by_channels One f (suc (suc zero)) low high = one_stereo f
  by_channels Two f (suc (suc zero)) low high = two_stereo f
  by_channels TwoFive f (suc (suc zero)) low high = as_two f 2 (two_stereo f)
  by_channels version f (suc (suc (suc channels))) low high = absurd (omega arith)

  -- what holds for each combination of version and channels holds for every class
  pub each_class : (c : ClassFields) → IsClass c → P c
  each_class c class = by_channels c.version c.frequency_index c.channels class.1 class.2

-- ---- how many bits
-- how many granules and channels a frame has together
abbrev pub granule_count : ClassFields → ℕ
granule_count c = granules_of c.version * c.channels

-- in every class the fields fill the bytes of the side information
pub widths_sum : (c : ClassFields) → IsClass c
    → sum (front_widths c) + granule_count c * granule_size c.version ≡ 8 * side_size_of c
unfolding side_size_of
widths_sum = grind (arith, each_class)

-- ---- bits to fields and back
granules_in-side_at : (c : ClassFields) → IsClass c → (bs : List ℕ) → granules_in c (side_at c bs)
    ≡ granules_from c.version 0 (granule_count c) (drop (sum (front_widths c)) bs)
unfolding granules_in side_at granules_from granule_at
granules_in-side_at = grind (arith, each_class, granules_from)

front-side_at : (c : ClassFields) → IsClass c → (bs : List ℕ)
    → group_bits (front_widths c) ((side_at c bs).main_data_begin ∷ (side_at c bs).private_bits
    ∷ (side_at c bs).scfsi) ≡ group_bits (front_widths c) (numbers_at (front_widths c) bs)
unfolding side_at group_bits numbers_at
front-side_at = grind (arith, each_class)

-- side information that was read is written as the bits that it was read from
pub side_bits-side_at : (c : ClassFields) → IsClass c → {bs : List ℕ} → AreBits bs
    → length bs ≡ 8 * side_size_of c → side_bits c (side_at c bs) ≡ bs
unfolding side_bits
side_bits-side_at c class all h =
    grind (
      arith,
      widths_sum,
      length-drop,
      zero-add,
      front-side_at,
      group_bits-numbers_at_front,
      granules_in-side_at,
      flat-granules_from,
      AreBelow-drop,
      zero-mul,
      take_all,
      take-append-drop,
    )

-- ---- fields to bits and back
-- the lists in side information are as long as the arrays
pub record IsShaped (s : Side) : Type 0 where
  pub scfsi : length s.scfsi ≡ 2
  pub granules : length s.granules ≡ 2
  pub first : length (get_or s.granules 0 []) ≡ 2
  pub second : length (get_or s.granules 1 []) ≡ 2

abbrev pub side_with : ℕ → ℕ → ℕ → ℕ → Granule → Granule → Granule → Granule → Side
side_with m p a b g h k l = record {
  main_data_begin = m;
  private_bits = p;
  scfsi = a ∷ b ∷ [];
  granules =
      (g ∷ h ∷ []) ∷ (k ∷ l ∷ []) ∷ [];
}

module _ (P : Side → Type 0)
    (each : (m p a b : ℕ) (g h k l : Granule) → P (side_with m p a b g h k l)) where
  by_second : (m p a b : ℕ) (g h : Granule) (ks : List Granule) → length ks ≡ 2 → P (record {
    main_data_begin = m;
    private_bits = p;
    scfsi = a ∷ b ∷ [];
    granules = (g ∷ h ∷ []) ∷ ks ∷ [];
  })
  by_second m p a b g h (k ∷ l ∷ []) e = each m p a b g h k l
  by_second m p a b g h ks e = absurd (omega arith)

  by_first : (m p a b : ℕ) (gs ks : List Granule) → length gs ≡ 2 → length ks ≡ 2 → P (record {
    main_data_begin = m;
    private_bits = p;
    scfsi = a ∷ b ∷ [];
    granules = gs ∷ ks ∷ [];
  })
  by_first m p a b (g ∷ h ∷ []) ks d e = by_second m p a b g h ks e
  by_first m p a b gs ks d e = absurd (omega arith)

  by_granules : (m p a b : ℕ) (gs : List (List Granule)) → length gs ≡ 2
      → length (get_or gs 0 []) ≡ 2 → length (get_or gs 1 []) ≡ 2
      → P (record { main_data_begin = m; private_bits = p; scfsi = a ∷ b ∷ []; granules = gs })
  by_granules m p a b (gs ∷ ks ∷ []) l d e = by_first m p a b gs ks d e
  by_granules m p a b gs l d e = absurd (omega arith)

  by_scfsi : (m p : ℕ) (cs : List ℕ) {gs : List (List Granule)} → length cs ≡ 2 → length gs ≡ 2
      → length (get_or gs 0 []) ≡ 2 → length (get_or gs 1 []) ≡ 2
      → P (record { main_data_begin = m; private_bits = p; scfsi = cs; granules = gs })
  by_scfsi m p (a ∷ b ∷ []) {gs} n l d e = by_granules m p a b gs l d e
  by_scfsi m p cs n l d e = absurd (omega arith)

  -- what holds for all side information made of two scfsi and two by two granules holds for all
  -- whose lists are as long as the arrays
  pub each_shaped : (s : Side) → IsShaped s → P s
  each_shaped s shaped = by_scfsi s.main_data_begin s.private_bits s.scfsi shaped.scfsi
      shaped.granules shaped.first shaped.second

-- what holds for each combination of version and channels and all such side information holds for
-- every class and side information
pub each_side : (P : ClassFields → Side → Type 0)
    → ((f m p a b : ℕ) (g h k l : Granule) → P (class_with One f 1) (side_with m p a b g h k l))
    → ((f m p a b : ℕ) (g h k l : Granule) → P (class_with One f 2) (side_with m p a b g h k l))
    → ((f m p a b : ℕ) (g h k l : Granule) → P (class_with Two f 1) (side_with m p a b g h k l))
    → ((f m p a b : ℕ) (g h k l : Granule) → P (class_with Two f 2) (side_with m p a b g h k l))
    → ((f channels : ℕ) (s : Side) → P (class_with Two f channels) s
    → P (class_with TwoFive f channels) s) → (c : ClassFields) → IsClass c → (s : Side) → IsShaped s
    → P c s
each_side P one_mono one_stereo two_mono two_stereo as_two c class s shaped =
    each_shaped (P c)
    (each_class (λ d. (m p a b : ℕ) (g h k l : Granule) → P d (side_with m p a b g h k l)) one_mono
    one_stereo two_mono two_stereo (λ f channels two m p a b g h k l. as_two f channels
    (side_with m p a b g h k l) (two m p a b g h k l)) c class)
    s shaped

-- the side information with these numbers of the fields before the granules, and these granules
unfoldable built : ClassFields → List ℕ → List ℕ → Side
built c front bs = record {
  main_data_begin = get_or front 0 0;
  private_bits = get_or front 1 0;
  scfsi = get_or front 2 0 ∷ get_or front 3 0 ∷ [];
  granules = granules_at c bs;
}

side_at-built : (c : ClassFields) (bs : List ℕ)
    → side_at c bs ≡ built c (numbers_at (front_widths c) bs) (drop (sum (front_widths c)) bs)
unfolding side_at built
side_at-built c bs = refl

-- the fields before the granules, and granules after them, are read from their bits
back : (c : ClassFields) (ns : List ℕ) (gs : List Granule) → NumbersFit (front_widths c) ns
    → length ns ≡ length (front_widths c)
    → side_at c (group_bits (front_widths c) ns ++ flat_map (granule_bits c.version) gs)
    ≡ built c ns (flat_map (granule_bits c.version) gs)
back c ns gs fits l =
    grind (arith, side_at-built, built, numbers_at-group_bits_more, drop_at, length-group_bits)

nth : (version : Version) (gs : List Granule) {n : ℕ} → n < length gs
    → GranuleFits version (get_or gs n no_granule)
    → nth_granule version n (flat_map (granule_bits version) gs) ≡ get_or gs n no_granule
nth version gs {n} h fits =
    grind (arith, append-nil (flat_map (granule_bits version) gs), nth_granule-flat version gs n)

abbrev GivesBack : ClassFields → Side → Type 0
GivesBack c s = SideFits c s → side_at c (side_bits c s) ≡ s

module _ (f m p a b : ℕ) (g h k l : Granule) where
  back_one_mono : GivesBack (class_with One f 1) (side_with m p a b g h k l)
  unfolding side_bits granules_in built
  back_one_mono fits =
      let gs : List Granule = g ∷ k ∷ [] in
      back (class_with One f 1) (m ∷ p ∷ a ∷ b ∷ []) gs
      (fits.main_data_begin, (fits.private_bits, (fits.scfsi 0, (fits.scfsi 1, tt)))) refl
      ∙ (λ i. side_with m p a b (nth One gs {n = 0} (omega arith) (fits.granules 0 0) i)
      (sym (fits.granules 0 1) i)
      (nth One gs {n = 1} (omega arith) (fits.granules 1 0) i) (sym (fits.granules 1 1) i))

  back_one_stereo : GivesBack (class_with One f 2) (side_with m p a b g h k l)
  unfolding side_bits granules_in built
  back_one_stereo fits =
      let gs : List Granule = g ∷ h ∷ k ∷ l ∷ [] in
      back (class_with One f 2) (m ∷ p ∷ a ∷ b ∷ []) gs
      (fits.main_data_begin, (fits.private_bits, (fits.scfsi 0, (fits.scfsi 1, tt)))) refl
      ∙ (λ i. side_with m p a b (nth One gs {n = 0} (omega arith) (fits.granules 0 0) i)
      (nth One gs {n = 1}
      (omega arith) (fits.granules 0 1) i) (nth One gs {n = 2} (omega arith) (fits.granules 1 0) i)
      (nth One gs {n = 3} (omega arith) (fits.granules 1 1) i))

  back_two_mono : GivesBack (class_with Two f 1) (side_with m p a b g h k l)
  unfolding side_bits granules_in built
  back_two_mono fits =
      let gs : List Granule = g ∷ [] in
      back (class_with Two f 1) (m ∷ p ∷ a ∷ b ∷ []) gs
      (fits.main_data_begin, (fits.private_bits, (fits.scfsi 0, (fits.scfsi 1, tt)))) refl
      ∙ (λ i. side_with m p a b (nth Two gs {n = 0} (omega arith) (fits.granules 0 0) i)
      (sym (fits.granules 0 1) i) (sym (fits.granules 1 0) i) (sym (fits.granules 1 1) i))

  back_two_stereo : GivesBack (class_with Two f 2) (side_with m p a b g h k l)
  unfolding side_bits granules_in built
  back_two_stereo fits =
      let gs : List Granule = g ∷ h ∷ [] in
      back (class_with Two f 2) (m ∷ p ∷ a ∷ b ∷ []) gs
      (fits.main_data_begin, (fits.private_bits, (fits.scfsi 0, (fits.scfsi 1, tt)))) refl
      ∙ (λ i. side_with m p a b (nth Two gs {n = 0} (omega arith) (fits.granules 0 0) i)
      (nth Two gs {n = 1}
      (omega arith) (fits.granules 0 1) i) (sym (fits.granules 1 0) i) (sym (fits.granules 1 1) i))

-- what fits MPEG-2.5 fits MPEG-2, and the other way round
fits_two : {f channels : ℕ} {s : Side} → SideFits (class_with TwoFive f channels) s
    → SideFits (class_with Two f channels) s
fits_two fits = grind arith

fits_two_five : {f channels : ℕ} {s : Side} → SideFits (class_with Two f channels) s
    → SideFits (class_with TwoFive f channels) s
fits_two_five fits = grind arith

back_as_two : (f channels : ℕ) (s : Side) → GivesBack (class_with Two f channels) s
    → GivesBack (class_with TwoFive f channels) s
unfolding side_at side_bits granules_in granule_at granule_bits
back_as_two f channels s two fits = two (fits_two fits)

-- side information that fits is read from the bits that it is written as
pub side_at-side_bits : (c : ClassFields) → IsClass c → (s : Side) → IsShaped s → SideFits c s
    → side_at c (side_bits c s) ≡ s
side_at-side_bits =
    each_side GivesBack back_one_mono back_one_stereo back_two_mono back_two_stereo back_as_two

-- ---- zeros and ones, and lengths
-- side information is written as zeros and ones
pub AreBits-side_bits : (c : ClassFields) (s : Side) → AreBits (side_bits c s)
unfolding side_bits
AreBits-side_bits c s = grind (arith, AreBelow-append, AreBits-group_bits, AreBits-flat)

-- the bits of the fields before the granules and of the granules are as many as their widths
-- together
long : (c : ClassFields) (ns : List ℕ) (gs : List Granule) → length ns ≡ length (front_widths c)
    → length (group_bits (front_widths c) ns ++ flat_map (granule_bits c.version) gs)
    ≡ sum (front_widths c) + length gs * granule_size c.version
long c ns gs l = grind (arith, length-append, length-group_bits, length-flat)

-- side information is written in as many bits as its bytes have
pub length-side_bits : (c : ClassFields) → IsClass c → (s : Side) → IsShaped s
    → length (side_bits c s) ≡ 8 * side_size_of c
unfolding side_bits granules_in granule_bits side_size_of
length-side_bits = search (arith, each_side, long)

-- the lists in side information that was read are as long as the arrays
pub IsShaped-side_at : (c : ClassFields) (bs : List ℕ) → IsShaped (side_at c bs)
unfolding side_at
IsShaped-side_at c bs = grind arith

some_fits : (version : Version) (bs : List ℕ) (n : ℕ) → AreBits bs
    → GranuleFits version (nth_granule version n bs)
some_fits version bs n all = grind (arith, GranuleFits-granule_at, AreBelow-drop)

abbrev FitsAt : ClassFields → Side → ℕ → ℕ → Type 0
FitsAt c s granule channel =
    MatchBool (has_granule c granule channel) (GranuleFits c.version (granule_in s granule channel))
    (granule_in s granule channel ≡ no_granule)

abbrev pub FrontFits : ClassFields → Side → Type 0
FrontFits c s = (s.main_data_begin < 2 ^ front_width c 0) × (s.private_bits < 2 ^ front_width c 1)
    × (get_or s.scfsi 0 0 < 2 ^ front_width c 2) × (get_or s.scfsi 1 0 < 2 ^ front_width c 3)

abbrev pub PairFits : ClassFields → Side → ℕ → Type 0
PairFits c s granule = FitsAt c s granule 0 × FitsAt c s granule 1

module _ (c : ClassFields) (m p a b : ℕ) (g h k l : Granule) where
  -- every granule and channel fits if those in the arrays do
  pub granules_fit : FitsAt c (side_with m p a b g h k l) 0 0
      → FitsAt c (side_with m p a b g h k l) 0 1 → FitsAt c (side_with m p a b g h k l) 1 0
      → FitsAt c (side_with m p a b g h k l) 1 1 → (granule channel : ℕ)
      → FitsAt c (side_with m p a b g h k l) granule channel
  granules_fit x0 x1 x2 x3 granule channel = grind arith

  fits_with : FrontFits c (side_with m p a b g h k l) → PairFits c (side_with m p a b g h k l) 0
      → PairFits c (side_with m p a b g h k l) 1 → SideFits c (side_with m p a b g h k l)
  fits_with front first second = grind arith

  -- side information fits if the fields before the granules and the granules fit
  fits_by : (m < 2 ^ front_width c 0) × ((p < 2 ^ front_width c 1)
      × ((a < 2 ^ front_width c 2) × ((b < 2 ^ front_width c 3) × Unit {0})))
      → FitsAt c (side_with m p a b g h k l) 0 0 → FitsAt c (side_with m p a b g h k l) 0 1
      → FitsAt c (side_with m p a b g h k l) 1 0 → FitsAt c (side_with m p a b g h k l) 1 1
      → SideFits c (side_with m p a b g h k l)
  fits_by front x0 x1 x2 x3 = grind (arith, fits_with)

fits_one_mono : (f : ℕ) (bs : List ℕ) → AreBits bs
    → SideFits (class_with One f 1) (side_at (class_with One f 1) bs)
unfolding side_at numbers_at
fits_one_mono f bs all =
    let rest : AreBits (drop 18 bs) = AreBelow-drop 2 18 bs all in
    fits_by (class_with One f 1) _ _ _ _ _ no_granule _ no_granule
    (NumbersFit-numbers_at (front_widths (class_with One f 1)) bs all)
    (some_fits One (drop 18 bs) 0 rest) refl (some_fits One (drop 18 bs) 1 rest) refl

fits_one_stereo : (f : ℕ) (bs : List ℕ) → AreBits bs
    → SideFits (class_with One f 2) (side_at (class_with One f 2) bs)
unfolding side_at numbers_at
fits_one_stereo f bs all =
    let rest : AreBits (drop 20 bs) = AreBelow-drop 2 20 bs all in
    fits_by (class_with One f 2) _ _ _ _ _ _ _ _
    (NumbersFit-numbers_at (front_widths (class_with One f 2)) bs all)
    (some_fits One (drop 20 bs) 0 rest)
    (some_fits One (drop 20 bs) 1 rest) (some_fits One (drop 20 bs) 2 rest)
    (some_fits One (drop 20 bs) 3 rest)

fits_two_mono : (f : ℕ) (bs : List ℕ) → AreBits bs
    → SideFits (class_with Two f 1) (side_at (class_with Two f 1) bs)
unfolding side_at numbers_at
fits_two_mono f bs all =
    let rest : AreBits (drop 9 bs) = AreBelow-drop 2 9 bs all in
    fits_by (class_with Two f 1) _ _ _ _ _ no_granule no_granule no_granule
    (NumbersFit-numbers_at (front_widths (class_with Two f 1)) bs all)
    (some_fits Two (drop 9 bs) 0 rest) refl refl refl

fits_two_stereo : (f : ℕ) (bs : List ℕ) → AreBits bs
    → SideFits (class_with Two f 2) (side_at (class_with Two f 2) bs)
unfolding side_at numbers_at
fits_two_stereo f bs all =
    let rest : AreBits (drop 10 bs) = AreBelow-drop 2 10 bs all in
    fits_by (class_with Two f 2) _ _ _ _ _ _ no_granule no_granule
    (NumbersFit-numbers_at (front_widths (class_with Two f 2)) bs all)
    (some_fits Two (drop 10 bs) 0 rest)
    (some_fits Two (drop 10 bs) 1 rest) refl refl

fits_as_two : (f channels : ℕ) (bs : List ℕ)
    → SideFits (class_with Two f channels) (side_at (class_with Two f channels) bs)
    → SideFits (class_with TwoFive f channels) (side_at (class_with TwoFive f channels) bs)
unfolding side_at granule_at
fits_as_two f channels bs two = grind (arith, fits_two_five)

-- the fields of side information that was read are within their bits
pub SideFits-side_at : (c : ClassFields) → IsClass c → (bs : List ℕ) → AreBits bs
    → SideFits c (side_at c bs)
SideFits-side_at = each_class (λ c. (bs : List ℕ) → AreBits bs → SideFits c (side_at c bs))
    fits_one_mono fits_one_stereo fits_two_mono fits_two_stereo
    (λ f channels two bs all. fits_as_two f channels bs (two bs all))

-- the fields of the empty side information are within their bits
pub SideFits-no_side : (c : ClassFields) → SideFits c no_side
SideFits-no_side c = grind arith

-- ---- the main data
-- the main data of the two channels of a granule are the sum over the list
pub pair_sum : (gs : List Granule) → length gs ≡ 2
    → (get_or gs 0 no_granule).part2_3_length + (get_or gs 1 no_granule).part2_3_length
    ≡ sum_by (λ (g : Granule). g.part2_3_length) gs
pair_sum (g ∷ h ∷ []) l = omega arith
pair_sum gs l = absurd (omega arith)

lists_sum : (gs : List (List Granule)) → length gs ≡ 2 → sum_by (λ (g : Granule). g.part2_3_length)
    (get_or gs 0 []) + sum_by (λ (g : Granule). g.part2_3_length) (get_or gs 1 [])
    ≡ sum_by (λ (hs : List Granule). sum_by (λ (g : Granule). g.part2_3_length) hs) gs
lists_sum (g ∷ h ∷ []) l = omega arith
lists_sum gs l = absurd (omega arith)

-- the main data of the two granules are all main data of the frame
pub payload_bits-sum : (s : Side) → length s.granules ≡ 2
    → sum_by (λ (g : Granule). g.part2_3_length) (get_or s.granules 0 [])
    + sum_by (λ (g : Granule). g.part2_3_length) (get_or s.granules 1 []) ≡ payload_bits s
unfolding payload_bits
payload_bits-sum s l = lists_sum s.granules l

-- a number divided by eight and rounded up is the number plus seven, divided
pub div_ceil-eight : (n : ℕ) → div_ceil n 8 ≡ (n + 7) / 8
div_ceil-eight n = grind arith

-- ---- what fits, by parts
-- side information fits if the fields before the granules and each granule fit
pub SideFits-from_parts : (c : ClassFields) (s : Side) → IsShaped s → FrontFits c s → PairFits c s 0
    → PairFits c s 1 → SideFits c s
SideFits-from_parts c =
    each_shaped (λ s. FrontFits c s → PairFits c s 0 → PairFits c s 1 → SideFits c s) (fits_with c)

-- the bytes of the main data hold their bits
pub bits_least : (s : Side) → payload_bits s ≤ 8 * payload_bytes s
unfolding payload_bytes
bits_least s = omega arith

-- bytes of the right length are the side information that is read from them, which fits and is
-- written back as these bytes
pub IsSideOf-side_at : {c : ClassFields} {part : List ℕ} {s : Side} → IsClass c
    → length part ≡ side_size_of c → s ≡ side_at c (bits part) → IsSideOf c part s
IsSideOf-side_at right size is =
    grind (arith, SideFits-side_at, AreBits-bits, back, side_bits-side_at, length-bits)
