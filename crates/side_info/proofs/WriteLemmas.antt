-- Side fields joined to words, and the words that are written.
use Rattle.std.proofs.Common.{ap, append-nil, append_assoc, ap₂, arith, Bool, drop, get_or, length}
use Rattle.std.proofs.Common.{List, refl, sum, sym, take, take_all, ℕ, [], ◌%◌, ◌*◌, ◌++◌, ◌+◌, ◌-◌}
use Rattle.std.proofs.{Common.{◌/◌, ◌<◌, ◌^◌, ◌∙◌, ◌∷◌, ◌≡◌, ◌≤◌}, Math.Nat.div-one}
use Rattle.std.{proofs.lemmas.{Grind.flat_map-append, Nat.one_shl}, specs.List.flat_map}
use Rattle.bit_fields.proofs.GroupsLemmas.{group_bits-joined, joined, joined-below}
use Rattle.bit_fields.{proofs.WordLemmas.{into_last, into_word, put_next}, specs.Bits.bits_of}
use Rattle.bit_fields.specs.Groups.{group_bits}
use Rattle.frame_header.specs.{Fields.ClassFields, HeaderBits.flag_of}
use Rattle.frame_header.specs.{Tables.{granules_of, side_size_of}, declared.version.Version.Version}
use Rattle.frame_header.specs.declared.version.Version.TheVariants.{One, Two}
use Rattle.side_info.proofs.GranuleLemmas.{NumbersFit-granule}
use Rattle.side_info.specs.Granule.{compress_width, granule_bits, granule_numbers, granule_size}
use Rattle.side_info.specs.Granule.{granule_widths, GranuleFits, no_granule, preflag_width}
use Rattle.side_info.specs.Parts.{class_with, front_size, second_pair_bits}
use Rattle.side_info.specs.Side.{front_widths_of, granules_in, side_bits}
use Rattle.side_info.specs.declared.{granule.Granule.Granule, side.Side.Side}
use mir.Val.{bool_byte}

-- a `bool` as a number is the flag as a bit
pub bool_byte-is : (flag : Bool) → bool_byte flag ≡ flag_of flag
bool_byte-is flag = grind arith

-- ---- one granule and channel as one number
-- the fields of a granule at their offsets, added up, are the number that joins them
granule_joined : (version : Version) (g : Granule)
    → ((g.part2_3_length * 131072 + g.big_values * 256 + g.global_gain) * 2
    ^ (compress_width version + 23) + (g.scalefac_compress * 8388608
    + flag_of g.window_switching * 4194304 + g.detail)) * 2 ^ (preflag_width version + 2)
    + (flag_of g.preflag * 4 + flag_of g.scalefac_scale * 2 + flag_of g.count1table_select)
    ≡ joined (granule_widths version) (granule_numbers g)
unfolding joined granule_numbers
granule_joined version g = grind arith

granule_most : (version : Version) → 2 ^ granule_size version ≤ 2 ^ 63
granule_most version = grind arith

compress_most : (version : Version) → compress_width version ≤ 9
compress_most version = grind arith

-- preflag has at most one bit
pub preflag_most : (version : Version) → preflag_width version ≤ 1
preflag_most version = grind arith

-- the fields up to detail fit in a word of 64 bits
pub upper_fits : (version : Version) {g : Granule} → GranuleFits version g
    → {compress first middle : ℕ} → compress ≡ compress_width version
    → first ≡ g.part2_3_length * 131072 + g.big_values * 256 + g.global_gain
    → middle ≡ g.scalefac_compress * 8388608 + flag_of g.window_switching * 4194304 + g.detail
    → first * (1 * 2 ^ (compress + 23) % 2 ^ 64) + middle < 2 ^ 64
upper_fits version fits compress_is first_is middle_is = grind arith

module _ (version : Version) {g : Granule} (fits : GranuleFits version g)
    {compress preflag first middle last : ℕ} (compress_is : compress ≡ compress_width version)
    (preflag_is : preflag ≡ preflag_width version) (first_is : first
    ≡ g.part2_3_length * 131072 + g.big_values * 256 + g.global_gain) (middle_is : middle
    ≡ g.scalefac_compress * 8388608 + flag_of g.window_switching * 4194304 + g.detail)
    (last_is : last
    ≡ flag_of g.preflag * 4 + flag_of g.scalefac_scale * 2 + flag_of g.count1table_select) where
  word-joined : (first * (1 * 2 ^ (compress + 23) % 2 ^ 64) + middle)
      * (1 * 2 ^ (preflag + 2) % 2 ^ 64) + last
      ≡ joined (granule_widths version) (granule_numbers g)
  word-joined = grind (arith, one_shl, compress_most, preflag_most, granule_joined)

  -- the word is below the power of 2 of the granule's bits
  pub word_below : (first * (1 * 2 ^ (compress + 23) % 2 ^ 64) + middle)
      * (1 * 2 ^ (preflag + 2) % 2 ^ 64) + last < 2 ^ granule_size version
  word_below = search (arith, word-joined, joined-below, NumbersFit-granule)

  -- the word fits in 64 bits
  pub word_fits : (first * (1 * 2 ^ (compress + 23) % 2 ^ 64) + middle)
      * (1 * 2 ^ (preflag + 2) % 2 ^ 64) + last < 2 ^ 64
  word_fits = omega (arith, word_below, granule_most version)

  -- the word has the bits of the granule
  pub word_bits : bits_of (granule_size version)
      ((first * (1 * 2 ^ (compress + 23) % 2 ^ 64) + middle) * (1 * 2 ^ (preflag + 2) % 2 ^ 64)
      + last) ≡ granule_bits version g
  unfolding granule_bits
  word_bits = search (arith, word-joined, group_bits-joined, NumbersFit-granule)

-- ---- the fields before the granules as one number
-- for these four widths, the number that joins the fields before the granules has their bits
abbrev FrontIs : List ℕ → Type 0
FrontIs ws = (m p : ℕ) (cs : List ℕ) (n : ℕ) → m < 2 ^ get_or ws 0 0 → p < 2 ^ get_or ws 1 0
    → ((k : ℕ) → get_or cs k 0 < 2 ^ get_or ws (2 + k) 0) → length cs ≡ 2
    → n ≡ joined ws (m ∷ p ∷ get_or cs 0 0 ∷ get_or cs 1 0 ∷ [])
    → bits_of (sum ws) n ≡ group_bits ws (m ∷ p ∷ cs)

front_is : (begin private first second : ℕ) → FrontIs (begin ∷ private ∷ first ∷ second ∷ [])
front_is begin private first second m p cs n hm hp hs l e = grind (arith, group_bits-joined)

-- the widths before the granules are the ones for one channel where there is one
pub front_of_one : (version : Version) {channels : ℕ} → channels ≡ 1
    → front_widths_of version 1 ≡ front_widths_of version channels
front_of_one version e = ap (front_widths_of version) (sym e)

-- the widths before the granules are the ones for two channels otherwise
pub front_of_two : (version : Version) {channels : ℕ} → (channels ≡ 1 → ⊥)
    → front_widths_of version 2 ≡ front_widths_of version channels
front_of_two version h = grind arith

-- the four fields before the granules, joined to a number, spell their bits
pub front-group_bits : {begin private first second : ℕ} {ws : List ℕ}
    → begin ∷ private ∷ first ∷ second ∷ [] ≡ ws → {m p : ℕ} (cs : List ℕ) {n : ℕ}
    → m < 2 ^ get_or ws 0 0 → p < 2 ^ get_or ws 1 0
    → ((k : ℕ) → get_or cs k 0 < 2 ^ get_or ws (2 + k) 0) → length cs ≡ 2 → n
    ≡ joined (begin ∷ private ∷ first ∷ second ∷ []) (m ∷ p ∷ get_or cs 0 0 ∷ get_or cs 1 0 ∷ [])
    → bits_of (sum ws) n ≡ group_bits ws (m ∷ p ∷ cs)
front-group_bits is cs hm hp hs l e = grind (arith, front_is)

-- ---- the words
module _ (b0 : List ℕ) {b1 b2 : List ℕ} (front granule w : ℕ) (room : length b0 ≡ 72)
    (word : bits_of 64 w ≡ bits_of 9 front ++ bits_of 55 (granule / 2 ^ 8))
    (e1 : b1 ≡ take 0 b0 ++ bits_of 64 w ++ drop 64 b0)
    (e2 : b2 ≡ take 64 b1 ++ bits_of 8 granule ++ drop 72 b1) where
  -- one word and a byte are the front and one granule
  pub one_put : b2 ≡ bits_of 9 front ++ bits_of 63 granule
  one_put =
      let p1 = put_next b0 0 64 w refl (omega arith) e1 in
      let p2 = put_next b1 64 8 granule p1.0 (omega (arith, p1.1)) e2 in
      sym (take_all 72 b2 (omega (arith, p1.1, p2.1)))
      ∙ p2.0
      ∙ sym (into_last w 63 55 8 granule (bits_of 9 front) refl word)

module _ (b0 : List ℕ) {b1 b2 b3 : List ℕ} (front : ℕ) {width : ℕ} (first second : ℕ) {size : ℕ}
    (left w x : ℕ) (room : length b0
    ≡ 136) (few : width < 64) (is : size ≡ 64 - width + left) (last : size ≡ 64 - left + 8)
    (one : bits_of 64 w ≡ bits_of width front ++ bits_of (64 - width) (first / 2 ^ left))
    (two : bits_of 64 x ≡ bits_of left first ++ bits_of (64 - left) (second / 2 ^ 8)) (e1 : b1
    ≡ take 0 b0 ++ bits_of 64 w ++ drop 64 b0) (e2 : b2 ≡ take 64 b1 ++ bits_of 64 x ++ drop 128 b1)
    (e3 : b3 ≡ take 128 b2 ++ bits_of 8 second ++ drop 136 b2) where
  -- two words and a byte are the front and two granules
  pub two_put : b3 ≡ bits_of width front ++ (bits_of size first ++ bits_of size second)
  two_put =
      let p1 = put_next b0 0 64 w refl (omega arith) e1 in
      let p2 = put_next b1 64 64 x p1.0 (omega (arith, p1.1)) e2 in
      let p3 = put_next b2 128 8 second p2.0 (omega (arith, p1.1, p2.1)) e3 in
      sym (take_all 136 b3 (omega (arith, p1.1, p2.1, p3.1)))
      ∙ p3.0
      ∙ append_assoc (bits_of 64 w) (bits_of 64 x) (bits_of 8 second)
      ∙ ap (λ bs. bits_of 64 w ++ bs)
      (sym (into_last x size (64 - left) 8 second (bits_of left first) last two))
      ∙ sym (into_word w size (64 - width) left first (bits_of width front)
      (bits_of size second) is one)

module _ (b0 : List ℕ) {b1 b2 b3 b4 : List ℕ} (front a b c d w x y z : ℕ) (room : length b0 ≡ 256)
    (one : bits_of 64 w ≡ bits_of 20 front ++ bits_of 44 (a / 2 ^ 15))
    (two : bits_of 64 x ≡ bits_of 15 a ++ bits_of 49 (b / 2 ^ 10))
    (three : bits_of 64 y ≡ bits_of 10 b ++ bits_of 54 (c / 2 ^ 5)) (four : bits_of 64 z
    ≡ bits_of 5 c ++ bits_of 59 (d / 2 ^ 0)) (e1 : b1 ≡ take 0 b0 ++ bits_of 64 w ++ drop 64 b0)
    (e2 : b2 ≡ take 64 b1 ++ bits_of 64 x ++ drop 128 b1)
    (e3 : b3 ≡ take 128 b2 ++ bits_of 64 y ++ drop 192 b2)
    (e4 : b4 ≡ take 192 b3 ++ bits_of 64 z ++ drop 256 b3) where
  -- four words are the front and four granules
  pub four_put : b4
      ≡ bits_of 20 front ++ (bits_of 59 a ++ (bits_of 59 b ++ (bits_of 59 c ++ bits_of 59 d)))
  four_put =
      let p1 = put_next b0 0 64 w refl (omega arith) e1 in
      let p2 = put_next b1 64 64 x p1.0 (omega (arith, p1.1)) e2 in
      let p3 =
      put_next b2 128 64 y p2.0 (omega (arith, p1.1, p2.1)) e3 in
      let p4 = put_next b3 192 64 z
      p3.0 (omega (arith, p1.1, p2.1, p3.1)) e4 in
      sym (take_all 256 b4 (omega (arith, p1.1, p2.1, p3.1, p4.1)))
      ∙ p4.0
      ∙ append_assoc (bits_of 64 w ++ bits_of 64 x) (bits_of 64 y) (bits_of 64 z)
      ∙ append_assoc (bits_of 64 w) (bits_of 64 x) (bits_of 64 y ++ bits_of 64 z)
      ∙ ap (λ bs. bits_of 64 w ++ (bits_of 64 x ++ (bits_of 64 y ++ bs)))
      (four ∙ ap (λ n. bits_of 5 c ++ bits_of 59 n) (div-one d))
      ∙ ap (λ bs. bits_of 64 w ++ (bits_of 64 x ++ bs))
      (sym (into_word y 59 54 5 c (bits_of 10 b) (bits_of 59 d) refl three))
      ∙ ap (λ bs. bits_of 64 w ++ bs)
      (sym (into_word x 59 49 10 b (bits_of 15 a) (bits_of 59 c ++ bits_of 59 d) refl two))
      ∙ sym (into_word w 59 44 15 a (bits_of 20 front)
      (bits_of 59 b ++ (bits_of 59 c ++ bits_of 59 d)) refl one)

-- the bits of a list of four are the bits of its members, joined in order
pub four_of : (gs : List ℕ) (cs : List ℕ) → length gs ≡ 4 → cs ++ (bits_of 59 (get_or gs 0 0)
    ++ (bits_of 59 (get_or gs 1 0) ++ (bits_of 59 (get_or gs 2 0) ++ bits_of 59 (get_or gs 3 0))))
    ≡ cs ++ flat_map (bits_of 59) gs
four_of (a ∷ b ∷ c ∷ d ∷ []) cs l = grind (arith, append-nil)
four_of gs cs l = absurd (omega arith)

-- ---- the channels of a granule
-- the bits of a granule with one channel are the bits of this channel
pub flat_one : (version : Version) (gs : List Granule) → length gs ≡ 2
    → flat_map (granule_bits version) (take 1 gs) ≡ granule_bits version (get_or gs 0 no_granule)
flat_one version gs l = grind (arith, append-nil)

-- the bits of a granule with two channels are the bits of the first followed by the bits of the
-- second
pub flat_two : (version : Version) (gs : List Granule) → length gs ≡ 2
    → flat_map (granule_bits version) (take 2 gs)
    ≡ granule_bits version (get_or gs 0 no_granule) ++ granule_bits version (get_or gs 1 no_granule)
flat_two version gs l = grind (arith, append-nil)

-- ---- the whole, from its parts
two_granules : (version : Version) (channels : ℕ) (gs : List (List Granule)) → length gs ≡ 2
    → flat_map (granule_bits version) (flat_map (take channels) (take (granules_of version) gs))
    ≡ flat_map (granule_bits version) (take channels (get_or gs 0 []))
    ++ second_pair_bits version channels (get_or gs 1 [])
two_granules version channels gs l = grind (arith, flat_map-append, append-nil)

-- side information is written as the fields before the granules, the first granule, and the second
pub side_bits-parts : (c : ClassFields) (s : Side) → length s.granules ≡ 2 → side_bits c s
    ≡ (group_bits (front_widths_of c.version c.channels)
    (s.main_data_begin ∷ s.private_bits ∷ s.scfsi)
    ++ flat_map (granule_bits c.version) (take c.channels (get_or s.granules 0 [])))
    ++ second_pair_bits c.version c.channels (get_or s.granules 1 [])
unfolding side_bits granules_in
side_bits-parts c s l = grind (arith, two_granules, append_assoc)

-- ---- the fields before the granules, and granules after them
-- the bits of the fields before the granules, and of the granules that a version has
abbrev Whole : Version → ℕ → ℕ → List Granule → List Granule → List ℕ
Whole version channels front gs hs = (bits_of (front_size version channels) front
    ++ flat_map (granule_bits version) (take channels gs)) ++ second_pair_bits version channels hs

module _ (gs hs : List Granule) (front a b : ℕ) (gs_two : length gs ≡ 2)
    (hs_two : length hs ≡ 2) where
  -- in MPEG-1 with one channel, the front and two granules are all of these bits
  pub one_mono : {version : Version} {channels : ℕ} → version ≡ One → channels ≡ 1
      → bits_of 59 a ≡ granule_bits One (get_or gs 0 no_granule)
      → bits_of 59 b ≡ granule_bits One (get_or hs 0 no_granule)
      → bits_of 18 front ++ (bits_of 59 a ++ bits_of 59 b) ≡ Whole version channels front gs hs
  one_mono v n left right = grind (arith, append_assoc, flat_one)

  -- in MPEG-1 with two channels, the front and four granules are all of these bits
  pub one_stereo : {version : Version} {channels : ℕ} (c d : ℕ) → version ≡ One → channels ≡ 2
      → bits_of 59 a ≡ granule_bits One (get_or gs 0 no_granule)
      → bits_of 59 b ≡ granule_bits One (get_or gs 1 no_granule)
      → bits_of 59 c ≡ granule_bits One (get_or hs 0 no_granule)
      → bits_of 59 d ≡ granule_bits One (get_or hs 1 no_granule)
      → bits_of 20 front ++ (bits_of 59 a ++ (bits_of 59 b ++ (bits_of 59 c ++ bits_of 59 d)))
      ≡ Whole version channels front gs hs
  one_stereo c d v n ea eb ec ed = grind (arith, append_assoc, flat_two)

  -- in MPEG-2 and MPEG-2.5 with one channel, the front and one granule are all of these bits
  pub two_mono : (version : Version) {channels : ℕ} → granules_of version ≡ 1 → channels ≡ 1
      → bits_of 63 a ≡ granule_bits version (get_or gs 0 no_granule)
      → bits_of 9 front ++ bits_of 63 a ≡ Whole version channels front gs hs
  two_mono version one n left = grind (arith, append-nil, flat_one)

  -- in MPEG-2 and MPEG-2.5 with two channels, the front and two granules are all of these bits
  pub two_stereo : (version : Version) {channels : ℕ} → granules_of version ≡ 1 → channels ≡ 2
      → bits_of 63 a ≡ granule_bits version (get_or gs 0 no_granule)
      → bits_of 63 b ≡ granule_bits version (get_or gs 1 no_granule)
      → bits_of 10 front ++ (bits_of 63 a ++ bits_of 63 b) ≡ Whole version channels front gs hs
  two_stereo version one n left right = grind (arith, append-nil, flat_two)

-- a granule has 63 bits where there is only one
pub size_of_two : (version : Version) → granules_of version ≡ 1 → granule_size version ≡ 63
size_of_two version one = grind arith

-- ---- the bytes of each class
-- MPEG-1 with n channels has the side bytes of the class with n channels
pub size_one : {version : Version} {channels n : ℕ} → version ≡ One → channels ≡ n
    → side_size_of (class_with version 0 channels) ≡ side_size_of (class_with One 0 n)
size_one v e = ap₂ (λ u k. side_size_of (class_with u 0 k)) v e

-- a version with one granule and n channels has the side bytes of MPEG-2 with n channels
pub size_two : (version : Version) {channels n : ℕ} → granules_of version ≡ 1 → channels ≡ n
    → side_size_of (class_with version 0 channels) ≡ side_size_of (class_with Two 0 n)
unfolding side_size_of
size_two version one e = grind arith

-- channels that aren't one are two
pub two_channels : {channels : ℕ} → 1 ≤ channels → channels ≤ 2 → (channels ≡ 1 → ⊥) → channels ≡ 2
two_channels some few more = grind arith
