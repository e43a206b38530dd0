-- What is compared to tell whether two frames sound alike.
use Rattle.std.proofs.Common.{ap, ap₂, arith, Bool, bytes_eq, drop, false, length, length-append}
use Rattle.std.proofs.Common.{List, map, refl, subst, suc, sum, sym, take, take-append-drop, true}
use Rattle.std.proofs.Common.{zero, ℕ, [], ◌&&◌, ◌*◌, ◌++◌, ◌+◌, ◌-◌, ◌/◌, ◌∙◌, ◌∷◌, ◌≡◌}
use Rattle.std.proofs.{Math.Seq.take-add, lemmas.Bool.Decides.same_from_decides}
use Rattle.std.proofs.lemmas.List.{drop_at, length-map, take_all, take_at, Sums.sum_by-cons}
use Rattle.std.{proofs.lemmas.Slice.Eq.bytes_eq-Decides, specs.{Bool.Decides, List.concat}}
use Rattle.std.specs.Prelude.{MatchBool, slice_index_or, sum_by}
use Rattle.bit_fields.proofs.{BitsLemmas.{bits-injective, length-bits}, GroupsLemmas.sum-cons}
use Rattle.bit_fields.specs.Bits.{AreBytes, bits, bits_of}
use Rattle.frame_header.proofs.HeaderLemmas.{IsClass-class_of, length-header_bits}
use Rattle.frame_header.specs.Fields.{ClassFields, HeaderFields, IsClass, SlotFields}
use Rattle.frame_header.specs.HeaderBits.{flag_of, header_bits}
use Rattle.frame_header.specs.declared.version.Version.TheVariants.{One, Two, TwoFive}
use Rattle.frame_writer.{proofs.LaidLemmas.length-zeros, specs.{Frames.Frame, Laid.zeros}}
use Rattle.laying.specs.LaidFiles.{HasPairs, IsStreamEntry, stream_entry}
use Rattle.seamless_edits.specs.Seamless.{sound_of}
use Rattle.seamless_edits.specs.Sounds.{compared_side, without_gain, without_slot}
use Rattle.side_info.proofs.FrontLemmas.{slot_put}
use Rattle.side_info.proofs.SideLemmas.{bits_least, each_side, IsShaped, length-side_bits}
use Rattle.side_info.proofs.SideLemmas.{side_at-side_bits, side_with}
use Rattle.side_info.specs.{Granule.{GranuleFits, no_granule}, Parts.class_with}
use Rattle.side_info.specs.Side.{granule_in, granules_in, payload_bits, payload_bytes, side_at}
use Rattle.side_info.specs.{Side.{side_bits, SideFits}, declared.granule.Granule.Granule}
use Rattle.side_info.specs.declared.side.Side.{Side}
use Rattle.sync_survey.specs.MainData.{granule_lengths, split_bits}

-- ---- tests

-- two tests of bytes are the same if each equality follows from the other
pub same-tests : {a b c d : List ℕ} → (a ≡ b → c ≡ d) → (c ≡ d → a ≡ b)
    → bytes_eq a b ≡ bytes_eq c d
same-tests to from = grind (arith, same_from_decides, bytes_eq, bytes_eq-Decides)

-- bytes are the same exactly if their bits are
pub bits-tested : (a b : List ℕ) {xs ys : List ℕ} → bits a ≡ xs → bits b ≡ ys → AreBytes a
    → AreBytes b → bytes_eq a b ≡ bytes_eq xs ys
bits-tested a b first second octets others = grind (arith, same-tests, bits-injective)

-- two lists are the same if their parts are
module _ {X : Type 0} where
  -- the first parts are the same, if they have the same length
  pub front-same : {us vs : List X} (xs ys : List X) → length us ≡ length vs → us ++ xs ≡ vs ++ ys
      → us ≡ vs
  front-same {us} {vs} xs ys long is =
      grind (arith, take_at us xs (length us) refl, take_at vs ys (length us) (sym long))

  -- the second parts are the same, if the first have the same length
  pub back-same : (us vs : List X) {xs ys : List X} → length us ≡ length vs → us ++ xs ≡ vs ++ ys
      → xs ≡ ys
  back-same us vs {xs} {ys} long is =
      grind (arith, drop_at us xs (length us) refl, drop_at vs ys (length us) (sym long))

-- ---- headers

put-slot : SlotFields → List ℕ → List ℕ
put-slot slot bs =
    let middle = take 16 bs ++ bits_of 4 slot.rate_index ++ drop 20 bs in
    take 22 middle ++ bits_of 1 (flag_of slot.padding) ++ drop 23 middle

-- putting a slot into the bits of a header gives the bits of the header in this slot
slot-bits : (h : HeaderFields) (slot : SlotFields)
    → put-slot slot (header_bits h) ≡ header_bits (record h { slot = slot })
unfolding put-slot
slot-bits h slot = slot_put h slot refl refl refl

-- headers that are the same in one slot are the same in every slot
slot-same : (g h : HeaderFields) (s t : SlotFields)
    → header_bits (record g { slot = s }) ≡ header_bits (record h { slot = s })
    → header_bits (record g { slot = t }) ≡ header_bits (record h { slot = t })
slot-same g h s t is =
    sym (slot-bits (record g { slot = s }) t) ∙ ap (put-slot t) is ∙ slot-bits
    (record h { slot = s }) t

-- headers are the same in one slot exactly if they are the same without their slots
pub header-alike : (g h : HeaderFields)
    → bytes_eq (header_bits (record g { slot = h.slot })) (header_bits h)
    ≡ bytes_eq (header_bits (without_slot g)) (header_bits (without_slot h))
header-alike g h = grind (arith, same-tests, slot-same)

-- ---- side information without gains

index-map : {X Y : Type 0} (f : X → Y) (xs : List X) (i : ℕ) (d : X)
    → slice_index_or (map f xs) i (f d) ≡ f (slice_index_or xs i d)
index-map f [] i d = refl
index-map f (x ∷ xs) zero d = refl
index-map f (x ∷ xs) (suc i) d = index-map f xs i d

compared_side-granule : (s : Side) (granule channel : ℕ)
    → granule_in (compared_side s) granule channel ≡ without_gain (granule_in s granule channel)
compared_side-granule s granule channel =
    ap (λ (gs : List Granule). slice_index_or gs channel no_granule)
    (index-map (map without_gain) s.granules granule [])
    ∙ index-map without_gain (slice_index_or s.granules granule []) channel no_granule

fits-bare : (c : ClassFields) (b : Bool) (g : Granule)
    → MatchBool b (GranuleFits c.version g) (g ≡ no_granule)
    → MatchBool b (GranuleFits c.version (without_gain g)) (without_gain g ≡ no_granule)
fits-bare c b g fits = grind arith

-- side information without gains and main_data_begin fits, too
pub compared_side-fits : {c : ClassFields} {s : Side} → SideFits c s → SideFits c (compared_side s)
compared_side-fits fits = grind (arith, compared_side-granule, fits-bare)

pairs-shaped : {s : Side} → HasPairs s → IsShaped s
pairs-shaped pairs = grind arith

compared_side-shaped : {s : Side} → HasPairs s → IsShaped (compared_side s)
compared_side-shaped {s} pairs = record {
  scfsi = pairs.scfsi;
  granules = length-map s.granules (map without_gain) ∙ pairs.granules;
  first = ap length (index-map (map without_gain) s.granules 0 []) ∙ length-map
      (slice_index_or s.granules 0 []) without_gain ∙ pairs.first;
  second = ap length (index-map (map without_gain) s.granules 1 []) ∙ length-map
      (slice_index_or s.granules 1 []) without_gain ∙ pairs.second;
}

-- ---- how many bits of main data

abbrev length_of : Granule → ℕ
length_of g = g.part2_3_length

sum-bare : (gs : List Granule) → sum_by length_of (map without_gain gs) ≡ sum_by length_of gs
sum-bare [] = refl
sum-bare (g ∷ gs) =
    sum_by-cons length_of (without_gain g) (map without_gain gs) ∙ ap (λ n. g.part2_3_length + n)
    (sum-bare gs) ∙ sym (sum_by-cons length_of g gs)

sums-bare : (gs : List (List Granule))
    → sum_by (sum_by length_of) (map (map without_gain) gs) ≡ sum_by (sum_by length_of) gs
sums-bare [] = refl
sums-bare (hs ∷ gs) =
    sum_by-cons (sum_by length_of) (map without_gain hs) (map (map without_gain) gs)
    ∙ ap₂ (λ m n. m + n) (sum-bare hs) (sums-bare gs)
    ∙ sym (sum_by-cons (sum_by length_of) hs gs)

payload-compared_side : (s : Side) → payload_bits (compared_side s) ≡ payload_bits s
unfolding payload_bits
payload-compared_side s = sums-bare s.granules

-- the granules and channels that the class has hold all bits of main data
abbrev LengthsAre : ClassFields → Side → Type 0
LengthsAre c s = SideFits c s → sum (map length_of (granules_in c s)) ≡ payload_bits s

module _ (f m p a b : ℕ) (g h k l : Granule) where
  lengths-one-mono : LengthsAre (class_with One f 1) (side_with m p a b g h k l)
  unfolding payload_bits granules_in
  lengths-one-mono fits =
      omega (arith, ap length_of (fits.granules 0 1), ap length_of (fits.granules 1 1))

  lengths-one-stereo : LengthsAre (class_with One f 2) (side_with m p a b g h k l)
  unfolding payload_bits granules_in
  lengths-one-stereo fits = omega arith

  lengths-two-mono : LengthsAre (class_with Two f 1) (side_with m p a b g h k l)
  unfolding payload_bits granules_in
  lengths-two-mono fits =
      omega (
        arith,
        ap length_of (fits.granules 0 1),
        ap length_of (fits.granules 1 0),
        ap length_of (fits.granules 1 1),
      )

  lengths-two-stereo : LengthsAre (class_with Two f 2) (side_with m p a b g h k l)
  unfolding payload_bits granules_in
  lengths-two-stereo fits =
      omega (arith, ap length_of (fits.granules 1 0), ap length_of (fits.granules 1 1))

lengths-as-two : {f channels : ℕ} {s : Side} → LengthsAre (class_with Two f channels) s
    → LengthsAre (class_with TwoFive f channels) s
unfolding granules_in
lengths-as-two two fits = grind arith

lengths-are : (c : ClassFields) → IsClass c → (s : Side) → IsShaped s → LengthsAre c s
lengths-are =
    each_side LengthsAre lengths-one-mono lengths-one-stereo lengths-two-mono lengths-two-stereo
    (λ f channels s. lengths-as-two {f = f} {channels = channels} {s = s})

-- parts of a list, joined, are the list
concat-parts : (ns bs : List ℕ) → concat (split_bits ns bs) ≡ take (sum ns) bs
unfolding split_bits
concat-parts [] bs = refl
concat-parts (n ∷ ns) bs = grind (arith, take-add, sum-cons, concat-parts ns (drop n bs))

-- ---- two frames

module _ {c : ClassFields} {f : Frame} (is : IsStreamEntry c f) where
  abbrev side : Side
  side = f.kept.side

  known : IsClass c
  known = subst IsClass is.class (IsClass-class_of is.header)

  abbrev data_bits : List ℕ
  data_bits = take (payload_bits side) (bits f.payload)

  data-many : length data_bits ≡ payload_bits side
  data-many =
      grind (
        arith,
        take-append-drop (payload_bits side) (bits f.payload),
        length-append data_bits
            (drop (payload_bits side) (bits f.payload)),
        length-bits f.payload,
        length-zeros (8 *
            payload_bytes side - payload_bits side),
        bits_least side,
      )

  all-bits : bits f.payload ≡ data_bits ++ zeros (8 * payload_bytes side - payload_bits side)
  all-bits = grind (arith, take-append-drop)

  parts-are : concat (stream_entry f).payload ≡ data_bits
  parts-are =
      concat-parts (granule_lengths f.kept.header side) data_bits
      ∙ ap (λ n. take n data_bits) (ap (λ k. sum (map length_of (granules_in k side))) is.class
      ∙ lengths-are c known side (pairs-shaped is.pairs) is.fits)
      ∙ take_all (payload_bits side) data_bits (omega (arith, data-many))

  -- the sound is the header without its slot, the side information without gains and
  -- main_data_begin, and the main data
  pub sound-is : sound_of c (stream_entry f) ≡ header_bits
      (without_slot f.kept.header) ++ (side_bits c (compared_side side) ++ data_bits)
  sound-is = grind (arith, parts-are)

module _ {c : ClassFields} {f g : Frame} (first : IsStreamEntry c f)
    (second : IsStreamEntry c g) where
  abbrev same_header : Bool
  same_header = bytes_eq (header_bits (without_slot f.kept.header))
      (header_bits (without_slot g.kept.header))

  abbrev same_side : Bool
  same_side =
      bytes_eq (side_bits c (compared_side f.kept.side)) (side_bits c (compared_side g.kept.side))

  side-long : length (side_bits c (compared_side f.kept.side))
      ≡ length (side_bits c (compared_side g.kept.side))
  side-long = grind (arith, length-side_bits, known, compared_side-shaped)

  header-long : length (header_bits (without_slot f.kept.header)) ≡ length
      (header_bits (without_slot g.kept.header))
  header-long = grind (arith, length-header_bits)

  -- if the compared side information is the same, the main data have the same length
  sides-many : side_bits c (compared_side f.kept.side) ≡ side_bits c (compared_side g.kept.side)
      → payload_bits f.kept.side ≡ payload_bits g.kept.side
  sides-many same =
      let back = side_at-side_bits c (known first) in
      let sides : compared_side f.kept.side ≡ compared_side g.kept.side =
      sym (back (compared_side f.kept.side) (compared_side-shaped first.pairs)
      (compared_side-fits first.fits))
      ∙ ap (side_at c) same
      ∙ back (compared_side g.kept.side) (compared_side-shaped second.pairs)
      (compared_side-fits second.fits) in
      sym (payload-compared_side f.kept.side) ∙ ap payload_bits sides
      ∙ payload-compared_side g.kept.side

  abbrev Sounds : Type 0
  Sounds = sound_of c (stream_entry f) ≡ sound_of c (stream_entry g)

  sounds-parts : Sounds → (header_bits (without_slot f.kept.header) ++ (side_bits c
      (compared_side f.kept.side) ++ data_bits first))
      ≡ header_bits (without_slot g.kept.header) ++ (side_bits c
      (compared_side g.kept.side) ++ data_bits second)
  sounds-parts same = sym (sound-is first) ∙ same ∙ sound-is second

  sound-headers : Sounds
      → header_bits (without_slot f.kept.header) ≡ header_bits (without_slot g.kept.header)
  sound-headers same = front-same _ _ header-long (sounds-parts same)

  sound-rest : Sounds → side_bits c (compared_side f.kept.side) ++ data_bits first ≡ side_bits c
      (compared_side g.kept.side) ++ data_bits second
  sound-rest same = back-same _ _ header-long (sounds-parts same)

  sound-sides : Sounds
      → side_bits c (compared_side f.kept.side) ≡ side_bits c (compared_side g.kept.side)
  sound-sides same = front-same _ _ side-long (sound-rest same)

  zeros-same : payload_bits f.kept.side ≡ payload_bits g.kept.side
      → zeros (8 * payload_bytes f.kept.side - payload_bits f.kept.side) ≡ zeros
      (8 * payload_bytes g.kept.side - payload_bits g.kept.side)
  unfolding payload_bytes
  zeros-same many = ap (λ n. zeros (8 * ((n + 7) / 8) - n)) many

  sound-payloads : Sounds → f.payload ≡ g.payload
  sound-payloads same =
      let datas = back-same _ _ side-long (sound-rest same) in
      let many : payload_bits f.kept.side ≡ payload_bits g.kept.side = sym (data-many first)
      ∙ ap length datas ∙ data-many second in
      bits-injective first.octets second.octets
      (all-bits first ∙ ap₂ (λ (a b : List ℕ). a ++ b) datas (zeros-same many) ∙ sym
      (all-bits second))

  sounds-made : header_bits (without_slot f.kept.header) ≡ header_bits (without_slot g.kept.header)
      → side_bits c (compared_side f.kept.side) ≡ side_bits c (compared_side g.kept.side)
      → f.payload ≡ g.payload → Sounds
  sounds-made headers sides payloads = grind (arith, sides-many, sound-is)

  -- the frames sound alike exactly if header, side information and main data are the same
  pub sounds-tested : (same_header && same_side) && bytes_eq f.payload g.payload
      ≡ bytes_eq (sound_of c (stream_entry f)) (sound_of c (stream_entry g))
  sounds-tested =
      same_from_decides _ _ (by same_header same_side (bytes_eq f.payload g.payload)
      (bytes_eq-Decides _ _) (bytes_eq-Decides _ _) (bytes_eq-Decides _ _))
      (bytes_eq-Decides (sound_of c (stream_entry f)) (sound_of c (stream_entry g)))
    where
      false-not : false ≡ true → ⊥
      false-not e = cc

      by : (x y z : Bool) → Decides x (header_bits (without_slot f.kept.header) ≡ header_bits
          (without_slot g.kept.header)) → Decides y
          (side_bits c (compared_side f.kept.side) ≡ side_bits c (compared_side g.kept.side))
          → Decides z (f.payload ≡ g.payload) → Decides ((x && y) && z) Sounds
      by true true true hs ss ps =
          (λ t. sounds-made (hs.0 refl) (ss.0 refl) (ps.0 refl), λ same. refl)
      by true true false hs ss ps = (λ t. absurd cc, λ same. ps.1 (sound-payloads same))
      by true false z hs ss ps =
          (λ t. absurd cc, λ same. absurd (false-not (ss.1 (sound-sides same))))
      by false y z hs ss ps =
          (λ t. absurd cc, λ same. absurd (false-not (hs.1 (sound-headers same))))
