-- Side fields as parts of the numbers that are read.
use Rattle.std.proofs.Common.{ap, ap₂, arith, drop, eqb, false, length, length-drop, List}
use Rattle.std.proofs.Common.{mod-eq_of_lt, pow_mono, refl, slice_set, sum, sym, take, ℕ, [], ◌%◌}
use Rattle.std.proofs.Common.{◌*◌, ◌++◌, ◌+◌, ◌-◌, ◌/◌, ◌<◌, ◌^◌, ◌∙◌, ◌∷◌, ◌≡◌, ◌≤◌}
use Rattle.std.proofs.{Math.Nat.{div-one, zero-mul}, lemmas.List.drop-drop}
use Rattle.std.proofs.lemmas.Nat.{shr-shr, shr_below}
use Rattle.bit_fields.proofs.BitsLemmas.{AreBelow-drop}
use Rattle.bit_fields.proofs.GroupsLemmas.{numbers_at-append, numbers_at-number_front, sliced}
use Rattle.bit_fields.{proofs.GroupsLemmas.sum-cons, specs.Bits.{AreBits, number}}
use Rattle.bit_fields.specs.Groups.{group, numbers_at}
use Rattle.frame_header.specs.Fields.{ClassFields, IsClass}
use Rattle.frame_header.specs.Tables.{granules_of, side_bytes_of, side_size_of}
use Rattle.frame_header.specs.declared.version.Version.{Version}
use Rattle.side_info.proofs.{SideLemmas.each_class, WriteLemmas.preflag_most}
use Rattle.side_info.specs.Granule.{compress_width, granule_at, granule_of, granule_size}
use Rattle.side_info.specs.Granule.{no_granule, preflag_width}
use Rattle.side_info.specs.Parts.{class_with, front_at, front_of_numbers, front_size, pair_at}
use Rattle.side_info.specs.{Parts.second_pair_at, Side.{channels_at, side_at}}
use Rattle.side_info.specs.declared.{front.Front.Front, granule.Granule.Granule, side.Side.Side}

-- ---- the fields before the granules
total : (a b c d : ℕ) → sum (a ∷ b ∷ c ∷ d ∷ []) ≡ a + b + c + d
total a b c d = grind (arith, sum-cons)

module _ (bs : List ℕ) (begin private first second : ℕ) {n : ℕ} (all : AreBits bs)
    (enough : begin + private + first + second ≤ length bs)
    (small : n < 2 ^ (begin + private + first + second))
    (is : n ≡ group 0 (begin + private + first + second) bs) where
  -- what is left above the other fields is a main_data_begin of its width
  pub begin-below : n / 2 ^ second / 2 ^ first / 2 ^ private < 2 ^ begin
  begin-below = grind (arith, shr-shr n second first, shr-shr n (second + first) private, shr_below)

  -- the four fields before the granules are made by division and remainder of their number
  pub front_fields : ◌≡◌ {A = Front} (record {
    main_data_begin = n / 2 ^ second / 2 ^ first / 2 ^ private;
    private_bits = n / 2 ^ second / 2 ^ first % 2 ^ private;
    scfsi = n / 2 ^ second % 2 ^ first ∷ n % 2 ^ second ∷ [];
  })
      (front_of_numbers (numbers_at (begin ∷ private ∷ first ∷ second ∷ []) bs))
  unfolding front_of_numbers sliced group
  front_fields =
      let widths : List ℕ = begin ∷ private ∷ first ∷ second ∷ [] in
      let whole = total begin private first second in
      let above_begin : second + first + private ≡ sum (private ∷ first ∷ second ∷ []) = omega (
        arith,
        sum-cons private (first ∷ second ∷ []),
        sum-cons first (second ∷ []),
        sum-cons second [],
      ) in
      let above_private : second + first ≡ sum (first ∷ second ∷ []) =
      omega (arith, sum-cons first (second ∷ []), sum-cons second []) in
      let above_first : second ≡ sum (second ∷ []) = omega (arith, sum-cons second []) in
      let e0 : n / 2 ^ second / 2 ^ first / 2 ^ private
      ≡ n / 2 ^ sum (private ∷ first ∷ second ∷ []) % 2 ^ begin =
      grind (arith, mod-eq_of_lt, begin-below, shr-shr) in
      let e1 : n / 2 ^ second / 2 ^ first % 2 ^ private
      ≡ n / 2 ^ sum (first ∷ second ∷ []) % 2 ^ private = grind (arith, shr-shr) in
      let e2 : n / 2 ^ second % 2 ^ first ≡ n / 2 ^ sum (second ∷ []) % 2 ^ first = grind arith in
      let e3 : n % 2 ^ second ≡ n / 2 ^ sum [] % 2 ^ second = grind (arith, div-one) in
      (λ i. record { main_data_begin = e0 i; private_bits = e1 i; scfsi = e2 i ∷ e3 i ∷ [] })
      ∙ ap front_of_numbers (ap (sliced widths) (is ∙ ap (λ k. number (take k bs)) (sym whole))
      ∙ sym (numbers_at-number_front widths bs all (omega (arith, whole, enough))))

-- ---- a granule, from three numbers
-- a granule has 54 bits, plus the bits of scalefac_compress and preflag
pub size-is : (version : Version)
    → granule_size version ≡ 54 + compress_width version + preflag_width version
size-is version = grind arith

-- preflag is all that is above the two lowest bits
pub preflag_once : (version : Version) {last : ℕ} → last < 2 ^ (preflag_width version + 2)
    → last / 4 % 2 ≡ last / 4
preflag_once version small = grind (arith, pow_mono, preflag_most, mod-eq_of_lt, shr_below)

module _ (version : Version) (bs : List ℕ) (at : ℕ) {first middle last : ℕ} (all : AreBits bs)
    (enough : at + granule_size version ≤ length bs) (first_small : first < 2 ^ 29)
    (middle_small : middle < 2 ^ (compress_width version + 23))
    (last_small : last < 2 ^ (preflag_width version + 2)) (first_is : first ≡ group at 29 bs)
    (middle_is : middle ≡ group (at + 29) (compress_width version + 23) bs)
    (last_is : last ≡ group (at + 52 + compress_width version) (preflag_width version + 2) bs) where
  compress-below : middle / 2 ^ 23 < 2 ^ compress_width version
  compress-below = shr_below middle (compress_width version) 23 middle_small

  preflag-below : last / 2 ^ 2 < 2 ^ preflag_width version
  preflag-below = shr_below last (preflag_width version) 2 last_small

  length-below : first / 2 ^ 17 < 2 ^ 12
  length-below = shr_below first 12 17 first_small

  -- the fields of a granule are made by division and remainder of its three numbers
  pub granule_from : ◌≡◌ {A = Granule} (record {
    part2_3_length = first / 131072;
    big_values = first / 256 % 512;
    global_gain = first % 256;
    scalefac_compress = middle / 8388608;
    window_switching = eqb (middle / 4194304 % 2) 1;
    detail = middle % 4194304;
    preflag = eqb (last / 4) 1;
    scalefac_scale = eqb (last / 2 % 2) 1;
    count1table_select = eqb (last % 2) 1;
  }) (granule_at version (drop at bs))
  unfolding granule_at granule_of sliced group
  granule_from =
      let cw : ℕ = compress_width version in
      let pw : ℕ = preflag_width version in
      let rest : List ℕ = drop at bs in
      let long : granule_size version ≤ length rest = simp length-drop (omega arith) in
      let size = size-is version in
      let middle_sum : sum (cw ∷ 1 ∷ 22 ∷ []) ≡ cw + 23 =
      omega (arith, sum-cons cw (1 ∷ 22 ∷ []), sum-cons 1 (22 ∷ []), sum-cons 22 []) in
      let last_sum : sum (pw ∷ 1 ∷ 1 ∷ []) ≡ pw + 2 =
      omega (arith, sum-cons pw (1 ∷ 1 ∷ []), sum-cons 1 (1 ∷ []), sum-cons 1 []) in
      let behind_middle : drop (sum (cw ∷ 1 ∷ 22 ∷ [])) (drop 29 rest) ≡ drop (at + 52 + cw) bs =
      ap (λ k. drop k (drop 29 rest)) middle_sum ∙ drop-drop (cw + 23) 29 rest
      ∙ drop-drop (29 + (cw + 23)) at bs ∙ ap (λ k. drop k bs) (omega arith) in
      let one : first / 131072 ∷ first / 256 % 512 ∷ first % 256 ∷ []
      ≡ numbers_at (12 ∷ 9 ∷ 8 ∷ []) rest =
      grind (arith, mod-eq_of_lt, length-below, div-one, numbers_at-number_front, AreBelow-drop)
      in
      let two : middle / 8388608 ∷ middle / 4194304 % 2 ∷ middle % 4194304 ∷ []
      ≡ numbers_at (cw ∷ 1 ∷ 22 ∷ []) (drop 29 rest) =
      (λ i. sym (mod-eq_of_lt compress-below) i ∷ middle / 4194304 % 2
      ∷ ap (λ m. m % 4194304) (sym (div-one middle)) i ∷ [])
      ∙ ap (sliced (cw ∷ 1 ∷ 22 ∷ []))
      (middle_is ∙ ap₂ (λ k ds. number (take k ds)) (sym middle_sum) (sym (drop-drop 29 at bs)))
      ∙ sym (numbers_at-number_front (cw ∷ 1 ∷ 22 ∷ []) (drop 29 rest)
      (AreBelow-drop 2 29 rest (AreBelow-drop 2 at bs all)) (simp length-drop (omega arith))) in
      let three : last / 4 ∷ last / 2 % 2 ∷ last % 2 ∷ []
      ≡ numbers_at (pw ∷ 1 ∷ 1 ∷ []) (drop (sum (cw ∷ 1 ∷ 22 ∷ [])) (drop 29 rest)) =
      grind (
        arith,
        mod-eq_of_lt,
        preflag-below,
        div-one,
        numbers_at-number_front,
        AreBelow-drop,
        length-drop,
      ) in
      ap granule_of
      (ap₂ (λ xs ys. xs ++ ys) one (ap₂ (λ xs ys. xs ++ ys) two three
      ∙ sym (numbers_at-append (cw ∷ 1 ∷ 22 ∷ []) (pw ∷ 1 ∷ 1 ∷ []) (drop 29 rest)))
      ∙ sym (numbers_at-append (12 ∷ 9 ∷ 8 ∷ []) (cw ∷ 1 ∷ 22 ∷ pw ∷ 1 ∷ 1 ∷ []) rest))

-- ---- two of a kind

-- a list of two whose two members are both set is the two that were set
pub set_both : {A : Type 0} (xs : List A) (first second : A) → length xs ≡ 2
    → slice_set (slice_set xs 0 first) 1 second ≡ first ∷ second ∷ []
set_both (x ∷ y ∷ []) first second two = refl
set_both (x ∷ y ∷ z ∷ xs) first second two = absurd (omega (arith, two))
set_both _ first second two = absurd (omega (arith, two))

-- one channel is the granule with which the bits begin; the other is all 0
pub pair_of_one : (version : Version) {channels : ℕ} (bs : List ℕ) {first : Granule} → first
    ≡ granule_at version bs → channels ≡ 1 → first ∷ no_granule ∷ [] ≡ pair_at version channels bs
pair_of_one version bs is one = rw (one, is) refl

-- two channels are two granules, the second right after the first
pub pair_of_two : (version : Version) (channels at : ℕ) {width : ℕ} (bs : List ℕ)
    {first second : Granule} → width ≡ granule_size version
    → first ≡ granule_at version (drop at bs) → second ≡ granule_at version (drop (at + width) bs)
    → eqb channels 1 ≡ false → first ∷ second ∷ [] ≡ pair_at version channels (drop at bs)
pair_of_two version channels at bs wide is next two = grind (arith, drop-drop)

-- ---- the whole, from its parts
sizes : (version : Version) (channels : ℕ) → side_bytes_of version channels ≤ 32
sizes version channels = grind arith

-- side information has at most 32 bytes
pub side_size-small : (c : ClassFields) → side_size_of c ≤ 32
unfolding side_size_of
side_size-small c = sizes c.version c.channels

-- the parts take up all the bits
pub parts_size : (c : ClassFields) → IsClass c
    → front_size c.version c.channels + (c.channels * granule_size c.version
    + (granules_of c.version - 1) * (c.channels * granule_size c.version)) ≡ 8 * side_size_of c
unfolding side_size_of
parts_size = grind (arith, each_class)

channels-pair : (c : ClassFields) (n : ℕ) (bs : List ℕ)
    → channels_at c n bs ≡ pair_at c.version c.channels (drop (n * granule_size c.version) bs)
channels-pair c n bs = grind (arith, drop-drop)

-- the fields before the granules, the first granule and the second are the side information
pub side_is : (c : ClassFields) (bs : List ℕ) {front : Front} {first second : List Granule}
    → front ≡ front_at c.version c.channels bs
    → first ≡ pair_at c.version c.channels (drop (front_size c.version c.channels) bs)
    → second ≡ second_pair_at c.version c.channels (drop (front_size c.version c.channels
    + c.channels * granule_size c.version) bs) → ◌≡◌ {A = Side} (record {
      main_data_begin = front.main_data_begin;
      private_bits = front.private_bits;
      scfsi = front.scfsi;
      granules = first ∷ second ∷ [];
    }) (side_at c bs)
unfolding side_at front_of_numbers
side_is c bs e0 e1 e2 = grind (arith, channels-pair, zero-mul, drop-drop)

-- side information depends on version and channels alone
pub side_at-class : (c : ClassFields) (bs : List ℕ)
    → side_at (class_with c.version 0 c.channels) bs ≡ side_at c bs
unfolding side_at
side_at-class c bs = refl

-- where there are two granules, the second one is within the side information
pub second_room : {granules : ℕ} (front size : ℕ) {total next : ℕ} → granules ≡ 2
    → next ≡ front + size → total ≡ front + (size + (granules - 1) * size) → next + size ≤ total
second_room front size two e d = grind arith

-- the length of side information depends on version and channels alone
pub side_size-class : (c : ClassFields)
    → side_size_of (class_with c.version 0 c.channels) ≡ side_size_of c
unfolding side_size_of
side_size-class c = refl
