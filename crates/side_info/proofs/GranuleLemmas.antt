-- The laws of a granule's side information: fields and bits give each other back.
use Rattle.std.proofs.Common.{ap, append_assoc, ap₂, arith, Bool, drop, get_or, length}
use Rattle.std.proofs.Common.{length-append, length-drop, List, one-add, refl, suc, sym, take, zero}
use Rattle.std.proofs.Common.{ℕ, [], ◌*◌, ◌++◌, ◌+◌, ◌<◌, ◌∙◌, ◌∷◌, ◌≡◌, ◌≤◌}
use Rattle.std.proofs.Math.Nat.{add-mul, add_assoc, add_comm, one-mul, suc-mul, zero-mul}
use Rattle.std.proofs.{Math.Seq.{drop-append-add, take-add}, lemmas.List.drop-drop}
use Rattle.std.specs.List.{flat_map}
use Rattle.bit_fields.proofs.BitsLemmas.{AreBelow-append, AreBelow-drop}
use Rattle.bit_fields.proofs.GroupsLemmas.{AreBits-group_bits, group_bits-append, group_bits-cons}
use Rattle.bit_fields.proofs.GroupsLemmas.{group_bits-numbers_at_front, length-group_bits}
use Rattle.bit_fields.proofs.GroupsLemmas.{length-NumbersFit, numbers_at-group_bits_more}
use Rattle.bit_fields.{proofs.GroupsLemmas.NumbersFit-numbers_at, specs.Bits.{AreBits, bits_of}}
use Rattle.bit_fields.specs.Groups.{group_bits, NumbersFit}
use Rattle.frame_header.specs.{HeaderBits.flag_of, declared.version.Version.Version}
use Rattle.side_info.specs.Granule.{compress_width, granule_at, granule_bits, granule_numbers}
use Rattle.side_info.specs.Granule.{granule_of, granule_size, granule_widths, GranuleFits, is_set}
use Rattle.side_info.specs.{Granule.{no_granule, preflag_width}, Side.nth_granule}
use Rattle.side_info.specs.declared.granule.Granule.{Granule}

-- ---- one bit as a truth
-- a flag as a bit is this flag
pub is_set-flag_of : (flag : Bool) → is_set (flag_of flag) ≡ flag
is_set-flag_of flag = grind arith

-- a flag as a bit is 0 or 1
pub flag_of-below : (flag : Bool) → flag_of flag < 2
flag_of-below flag = grind arith

-- ---- fields and the numbers of the groups
-- the fields of a granule that fits are within the widths of its groups
pub NumbersFit-granule : (version : Version) {g : Granule} → GranuleFits version g
    → NumbersFit (granule_widths version) (granule_numbers g)
unfolding granule_numbers
NumbersFit-granule version h = grind (arith, flag_of-below)

-- a granule's numbers give the granule
pub granule_of-numbers : (g : Granule) → granule_of (granule_numbers g) ≡ g
unfolding granule_of granule_numbers
granule_of-numbers g = grind (arith, is_set-flag_of)

numbers_same : (version : Version) {ns : List ℕ} → NumbersFit (granule_widths version) ns
    → length ns ≡ 9 → granule_numbers (granule_of ns) ≡ ns
unfolding granule_of granule_numbers
numbers_same version fit l = grind arith

-- numbers within the widths are the numbers of the granule that they give
pub numbers-granule_of : (version : Version) {ns : List ℕ} → NumbersFit (granule_widths version) ns
    → granule_numbers (granule_of ns) ≡ ns
numbers-granule_of version fit = search (arith, numbers_same, length-NumbersFit)

fields_fit : (version : Version) (ns : List ℕ) → NumbersFit (granule_widths version) ns
    → length ns ≡ 9 → GranuleFits version (granule_of ns)
unfolding granule_of
fields_fit version ns fit l = grind arith

-- the fields of the granule that they give are within their bits
pub GranuleFits-granule_of : (version : Version) (ns : List ℕ)
    → NumbersFit (granule_widths version) ns → GranuleFits version (granule_of ns)
GranuleFits-granule_of version ns fit = search (arith, fields_fit, length-NumbersFit)

-- ---- fields and bits
-- a granule has nine numbers
pub length-granule_numbers : (g : Granule) → length (granule_numbers g) ≡ 9
unfolding granule_numbers
length-granule_numbers g = refl

-- a granule is written in as many bits as the version has for it
pub length-granule_bits : (version : Version) (g : Granule)
    → length (granule_bits version g) ≡ granule_size version
unfolding granule_bits
length-granule_bits version g = grind (arith, length-group_bits, length-granule_numbers)

-- a granule is written as zeros and ones
pub AreBits-granule_bits : (version : Version) (g : Granule) → AreBits (granule_bits version g)
unfolding granule_bits
AreBits-granule_bits version g = AreBits-group_bits (granule_widths version) (granule_numbers g)

-- the fields of a granule that was read are within their bits
pub GranuleFits-granule_at : (version : Version) (bs : List ℕ) → AreBits bs
    → GranuleFits version (granule_at version bs)
unfolding granule_at
GranuleFits-granule_at version bs h = search (arith, GranuleFits-granule_of, NumbersFit-numbers_at)

-- a granule is read from its bits, whatever follows
pub granule_at-granule_bits : (version : Version) {g : Granule} (more : List ℕ)
    → GranuleFits version g → granule_at version (granule_bits version g ++ more) ≡ g
unfolding granule_at granule_bits
granule_at-granule_bits version more h =
    search (arith, numbers_at-group_bits_more, NumbersFit-granule, granule_of-numbers)

-- the granule with which bits begin is written as these bits
pub granule_bits-granule_at : (version : Version) (bs : List ℕ) → AreBits bs → granule_size version
    ≤ length bs → granule_bits version (granule_at version bs) ≡ take (granule_size version) bs
unfolding granule_at granule_bits
granule_bits-granule_at version bs all h =
    grind (
      arith,
      numbers-granule_of version
          (NumbersFit-numbers_at (granule_widths version) bs all),
      NumbersFit-numbers_at (granule_widths
          version) bs all,
      group_bits-numbers_at_front (granule_widths version) bs all h,
    )

-- ---- granules in order
-- `count` granules, from the nth on
unfoldable pub granules_from : Version → ℕ → ℕ → List ℕ → List Granule
granules_from version n zero bs = []
granules_from version n (suc count) bs =
    nth_granule version n bs ∷ granules_from version (n + 1) count bs

-- granules take up as many bits as one granule, times their number
pub length-flat : (version : Version) (gs : List Granule)
    → length (flat_map (granule_bits version) gs) ≡ length gs * granule_size version
length-flat version [] = omega arith
length-flat version (g ∷ gs) =
    grind (arith, length-granule_bits, length-append, suc-mul, add_comm, length-flat version gs)

-- granules are written as zeros and ones
pub AreBits-flat : (version : Version) (gs : List Granule)
    → AreBits (flat_map (granule_bits version) gs)
AreBits-flat version [] = tt
AreBits-flat version (g ∷ gs) = AreBelow-append 2 (granule_bits version g)
    (flat_map (granule_bits version) gs) (AreBits-granule_bits version g) (AreBits-flat version gs)

-- granules are read back from the bits that they spell
pub nth_granule-flat : (version : Version) (gs : List Granule) (n : ℕ) (more : List ℕ)
    → n < length gs → GranuleFits version (get_or gs n no_granule)
    → nth_granule version n (flat_map (granule_bits version) gs ++ more) ≡ get_or gs n no_granule
nth_granule-flat version [] n more h fits = absurd (omega arith)
nth_granule-flat version (g ∷ gs) zero more h fits =
    grind (arith, zero-mul, append_assoc, granule_at-granule_bits)
nth_granule-flat version (g ∷ gs) (suc n) more h fits =
    grind (
      arith,
      suc-mul n (granule_size version),
      add_comm (n * granule_size version)
          (granule_size version),
      length-granule_bits version g,
      append_assoc (granule_bits version g)
          (flat_map (granule_bits version) gs) more,
      drop-append-add (granule_bits version g) (flat_map
          (granule_bits version) gs ++ more) (n * granule_size version),
      nth_granule-flat version gs n
          more (omega arith) fits,
    )

-- bits are the ones that the granules read from them spell
pub flat-granules_from : (version : Version) (n count : ℕ) (bs : List ℕ) → AreBits bs
    → (n + count) * granule_size version ≤ length bs
    → flat_map (granule_bits version) (granules_from version n count bs)
    ≡ take (count * granule_size version) (drop (n * granule_size version) bs)
unfolding granules_from
flat-granules_from version n zero bs all h = grind (arith, zero-mul)
flat-granules_from version n (suc count) bs all h =
    let size : ℕ = granule_size version in
    let whole : (n + suc count) * size ≡ n * size + suc count * size = add-mul n (suc count) size in
    let more : suc count * size ≡ count * size + size = suc-mul count size in
    let next : (n + 1) * size ≡ n * size + size = grind (arith, add-mul, one-mul) in
    let one : granule_bits version (granule_at version (drop (n * size) bs))
    ≡ take size (drop (n * size) bs) = granule_bits-granule_at version (drop (n * size) bs)
    (AreBelow-drop 2 (n * size) bs all) (simp length-drop (omega arith)) in
    let others : flat_map (granule_bits version) (granules_from version (n + 1) count bs)
    ≡ take (count * size) (drop size (drop (n * size) bs)) =
    grind (
      arith,
      add_assoc,
      one-add,
      drop-drop,
      flat-granules_from version (n + 1) count bs all
          (rw (add_assoc n 1 count, one-add count) h),
    ) in
    ap₂ (λ cs ds. cs ++ ds) one others
    ∙ sym (take-add size (count * size) (drop (n * size) bs))
    ∙ ap (λ k. take k (drop (n * size) bs)) (add_comm size (count * size) ∙ sym more)

-- ---- another gain
-- a granule with another gain differs in its third group alone
pub bits-parts : (version : Version) (g : Granule)
    → granule_bits version g ≡ group_bits (12 ∷ 9 ∷ []) (g.part2_3_length ∷ g.big_values ∷ [])
    ++ (bits_of 8 g.global_gain
    ++ group_bits (compress_width version ∷ 1 ∷ 22 ∷ preflag_width version
    ∷ 1 ∷ 1 ∷ []) (g.scalefac_compress ∷ flag_of g.window_switching ∷ g.detail ∷ flag_of g.preflag
    ∷ flag_of g.scalefac_scale ∷ flag_of g.count1table_select ∷ []))
unfolding granule_bits granule_numbers
bits-parts version g =
    group_bits-append (12 ∷ 9 ∷ []) (8 ∷ compress_width version ∷ 1 ∷ 22 ∷ preflag_width version ∷ 1
    ∷ 1 ∷ []) (g.part2_3_length ∷ g.big_values ∷ [])
    (g.global_gain ∷ g.scalefac_compress ∷ flag_of g.window_switching ∷ g.detail ∷ flag_of g.preflag
    ∷ flag_of g.scalefac_scale ∷ flag_of g.count1table_select ∷ []) refl
    ∙ ap (λ bs. group_bits (12 ∷ 9 ∷ []) (g.part2_3_length ∷ g.big_values ∷ []) ++ bs)
    (group_bits-cons 8
    g.global_gain (compress_width version ∷ 1 ∷ 22 ∷ preflag_width version ∷ 1 ∷ 1
    ∷ []) (g.scalefac_compress ∷ flag_of g.window_switching ∷ g.detail ∷ flag_of g.preflag
    ∷ flag_of g.scalefac_scale ∷ flag_of g.count1table_select ∷ []))
