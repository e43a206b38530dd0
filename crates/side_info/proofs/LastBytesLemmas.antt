-- The last bytes of side information: at least 30 bits are after the last global_gain (ISO/IEC
-- 11172-3 and 13818-3, 2.4.1.7), so they are the same whatever the gains are.
pub use Rattle.side_info.specs.Granule.{AreGranulesAlike}
use Rattle.std.proofs.Common.{ap, append-nil, append_assoc, ap₂, arith, drop, length, length-append}
use Rattle.std.proofs.Common.{List, refl, sum, sym, take, ℕ, [], ◌*◌, ◌++◌, ◌+◌, ◌-◌, ◌∙◌, ◌∷◌, ◌≡◌}
use Rattle.std.proofs.{Common.◌≤◌, lemmas.{Grind.flat_map-append, List.{drop-drop, drop_at}}}
use Rattle.std.specs.List.{flat_map}
use Rattle.bit_fields.proofs.BitsLemmas.{drop-bytes}
use Rattle.bit_fields.proofs.GroupsLemmas.{group_bits-append, length-group_bits}
use Rattle.bit_fields.specs.{Bits.{AreBytes, bytes}, Groups.group_bits}
use Rattle.frame_header.specs.Fields.{ClassFields, HeaderFields, IsClass}
use Rattle.frame_header.specs.Tables.{class_of, granules_of, overhead_of, side_size_of}
use Rattle.frame_header.specs.declared.version.Version.{Version, TheVariants.{One, Two, TwoFive}}
use Rattle.side_info.proofs.FrameLemmas.{area-frame_with_side, drop-take-append, HasRoom}
use Rattle.side_info.proofs.FrameLemmas.{overhead-is, shaped-side_in, side_part-frame_with_side}
use Rattle.side_info.proofs.{FrameLemmas.side_there, GranuleLemmas.length-flat}
use Rattle.side_info.proofs.SideLemmas.{each_class, each_side, IsShaped, length-side_bits}
use Rattle.side_info.specs.Frame.{frame_with_side, side_in, side_offset, side_part}
use Rattle.side_info.specs.{Granule.{granule_bits, granule_numbers, granule_size}, Parts.class_with}
use Rattle.side_info.specs.Side.{front_widths, granule_in, granules_in, side_bits}
use Rattle.side_info.specs.declared.{granule.Granule.Granule, side.Side.Side}

-- ---- after the gain of a granule

-- the bits after the first three groups, which have 29 bits
behind_three : (more ms : List ℕ) (a b gain : ℕ)
    → drop 29 (group_bits (12 ∷ 9 ∷ 8 ∷ more) (a ∷ b ∷ gain ∷ ms)) ≡ group_bits more ms
behind_three more ms a b gain =
    let front = group_bits (12 ∷ 9 ∷ 8 ∷ []) (a ∷ b ∷ gain ∷ []) in
    ap (drop 29) (group_bits-append (12 ∷ 9 ∷ 8 ∷ []) more (a ∷ b ∷ gain ∷ []) ms refl)
    ∙ drop_at front (group_bits more ms) 29
    (length-group_bits (12 ∷ 9 ∷ 8 ∷ []) (a ∷ b ∷ gain ∷ []) refl)

-- the bits after global_gain don't change with another gain
behind_gain : (version : Version) (g : Granule) (gain : ℕ)
    → drop 29 (granule_bits version (record g { global_gain = gain }))
    ≡ drop 29 (granule_bits version g)
unfolding granule_bits granule_numbers
behind_gain version g gain = grind (arith, behind_three)

-- the bits after global_gain are the same in granules that differ in no other field
pub bits_behind_gain : (version : Version) (g : Granule) {h : Granule} → AreGranulesAlike g h
    → drop 29 (granule_bits version h) ≡ drop 29 (granule_bits version g)
bits_behind_gain version g alike = grind (arith, behind_gain)

-- the last two bytes of a granule's bits are after global_gain
last_16 : (version : Version) (g : Granule) {h : Granule} → AreGranulesAlike g h
    → drop (granule_size version - 16) (granule_bits version h)
    ≡ drop (granule_size version - 16) (granule_bits version g)
last_16 One g {h} alike =
    sym (drop-drop 14 29 (granule_bits One h)) ∙ ap (drop 14) (bits_behind_gain One g alike)
    ∙ drop-drop 14 29 (granule_bits One g)
last_16 Two g {h} alike =
    sym (drop-drop 18 29 (granule_bits Two h)) ∙ ap (drop 18) (bits_behind_gain Two g alike)
    ∙ drop-drop 18 29 (granule_bits Two g)
last_16 TwoFive g {h} alike =
    sym (drop-drop 18 29 (granule_bits TwoFive h))
    ∙ ap (drop 18) (bits_behind_gain TwoFive g alike) ∙ drop-drop 18 29 (granule_bits TwoFive g)

-- ---- the last granule and channel

abbrev pub last_granule : ClassFields → Side → Granule
last_granule c s = granule_in s (granules_of c.version - 1) (c.channels - 1)

-- the bits of a granule that is after the fields before the granules and other granules
behind_others : (c : ClassFields) (ns : List ℕ) (gs : List Granule) (last : Granule)
    → length ns ≡ length (front_widths c) → drop
    (sum (front_widths c) + length gs * granule_size c.version) (group_bits (front_widths c) ns
    ++ flat_map (granule_bits c.version) (gs ++ (last ∷ []))) ≡ granule_bits c.version last
behind_others c ns gs last long =
    let front = group_bits (front_widths c) ns in
    let others = flat_map (granule_bits c.version) gs in
    let end = granule_bits c.version last in
    let size : length (front ++ others)
    ≡ sum (front_widths c) + length gs * granule_size c.version = omega (
      arith,
      length-append front others,
      length-group_bits (front_widths c) ns long,
      length-flat c.version gs,
    ) in
    let split : flat_map (granule_bits c.version) (gs ++ (last ∷ [])) ≡ others ++ end =
    grind (arith, flat_map-append, append-nil) in
    ap (λ (l : List ℕ). drop (sum (front_widths c) + length gs * granule_size c.version)
    (front ++ l)) split
    ∙ ap (drop (sum (front_widths c) + length gs * granule_size c.version))
    (sym (append_assoc front others end))
    ∙ drop_at (front ++ others) end (sum (front_widths c) + length gs * granule_size c.version) size

-- side information ends with the bits of its last granule and channel
pub last_granule-side_bits : (c : ClassFields) → IsClass c → (s : Side) → IsShaped s
    → drop (8 * side_size_of c - granule_size c.version) (side_bits c s)
    ≡ granule_bits c.version (last_granule c s)
unfolding side_bits granules_in granule_bits side_size_of
last_granule-side_bits =
    each_side (λ c s. drop (8 * side_size_of c - granule_size c.version) (side_bits c s)
    ≡ granule_bits c.version (last_granule c s))
    (λ f m p a b g h k l. behind_others (class_with One f 1) (m ∷ p ∷ a ∷ b ∷ []) (g ∷ []) k refl)
    (λ f m p a b g h k l. behind_others (class_with One f 2) (m ∷ p ∷ a ∷ b ∷ [])
    (g ∷ h ∷ k ∷ []) l refl)
    (λ f m p a b g h k l. behind_others (class_with Two f 1) (m ∷ p ∷ a ∷ b ∷ []) [] g refl)
    (λ f m p a b g h k l. behind_others (class_with Two f 2) (m ∷ p ∷ a ∷ b ∷ []) (g ∷ []) h refl)
    (λ f channels s two. two)

-- ---- the last two bytes

least_size : (c : ClassFields) → IsClass c
    → (16 ≤ granule_size c.version) × (granule_size c.version ≤ 8 * side_size_of c)
unfolding side_size_of
least_size = grind (arith, each_class)

-- the last two bytes' bits are the same if the last granules differ in no field but global_gain
last_bits : (c : ClassFields) → IsClass c → {s t : Side} → IsShaped s → IsShaped t
    → AreGranulesAlike (last_granule c s) (last_granule c t)
    → drop (8 * (side_size_of c - 2)) (side_bits c t)
    ≡ drop (8 * (side_size_of c - 2)) (side_bits c s)
last_bits c class {s} {t} s_shaped t_shaped alike =
    let least = least_size c class in
    let before = 8 * side_size_of c - granule_size c.version in
    let more = granule_size c.version - 16 in
    let offset : 8 * (side_size_of c - 2) ≡ before + more = omega (arith, least.0, least.1) in
    let last : (u : Side) → IsShaped u → drop (8 * (side_size_of c - 2)) (side_bits c u)
    ≡ drop more (granule_bits c.version (last_granule c u)) =
    λ u shaped. ap (λ n. drop n (side_bits c u)) offset
    ∙ sym (drop-drop more before (side_bits c u))
    ∙ ap (drop more) (last_granule-side_bits c class u shaped) in
    last t t_shaped ∙ last_16 c.version (last_granule c s) alike
    ∙ sym (last s s_shaped)

-- the last two bytes are the same if the last granules differ in no field but global_gain
pub last_bytes : (c : ClassFields) → IsClass c → {s t : Side} → IsShaped s → IsShaped t
    → AreGranulesAlike (last_granule c s) (last_granule c t)
    → drop (side_size_of c - 2) (bytes (side_bits c t))
    ≡ drop (side_size_of c - 2) (bytes (side_bits c s))
last_bytes c class s_shaped t_shaped alike =
    grind (arith, least_size, drop-bytes, length-side_bits, last_bits)

-- ---- in a frame

-- the bytes from within the side information on are the rest of it and the area
behind_part : (h : HeaderFields) {n : ℕ} (frame : List ℕ) → n ≤ side_size_of (class_of h)
    → drop (side_offset h.protected + n) frame
    ≡ drop n (side_part h frame) ++ drop (overhead_of (class_of h) h.protected) frame
unfolding side_part
behind_part h {n} frame within =
    let offset = side_offset h.protected in
    let size = side_size_of (class_of h) in
    let area : drop size (drop offset frame) ≡ drop (overhead_of (class_of h) h.protected) frame =
    drop-drop size offset frame
    ∙ ap (λ k. drop k frame) (sym (overhead-is (class_of h) h.protected))
    in
    sym (drop-drop n offset frame)
    ∙ sym (drop-take-append n size (drop offset frame) within)
    ∙ ap (λ (l : List ℕ). drop n (take size (drop offset frame)) ++ l) area

-- From two bytes before its area on, a frame stays as it is if it gets side information whose last
-- granule and channel differs in no field but global_gain.
pub last_bytes-frame_with_side : (h : HeaderFields) {s : Side} (frame : List ℕ)
    → IsClass (class_of h) → AreBytes frame → IsShaped s → HasRoom h frame
    → AreGranulesAlike (last_granule (class_of h) (side_in h frame)) (last_granule (class_of h) s)
    → drop (overhead_of (class_of h) h.protected - 2) (frame_with_side h s frame)
    ≡ drop (overhead_of (class_of h) h.protected - 2) frame
last_bytes-frame_with_side h {s} frame class all shaped room alike =
    let c = class_of h in
    let n = side_size_of c - 2 in
    let area = drop (overhead_of c h.protected) frame in
    let least = least_size c class in
    let offset : overhead_of c h.protected - 2 ≡ side_offset h.protected + n =
    omega (arith, overhead-is c h.protected, least.0, least.1) in
    let from : (l : List ℕ) → drop (overhead_of c h.protected - 2) l
    ≡ drop n (side_part h l) ++ drop (overhead_of c h.protected) l = grind (arith, behind_part) in
    from (frame_with_side h s frame)
    ∙ ap₂ (λ (part rest : List ℕ). drop n part ++ rest)
    (side_part-frame_with_side h frame class shaped room)
    (area-frame_with_side h frame class shaped room)
    ∙ ap (λ (l : List ℕ). l ++ area)
    (last_bytes c class (shaped-side_in h frame) shaped alike)
    ∙ ap (λ (l : List ℕ). drop n l ++ area) (side_there h frame class all room)
    ∙ sym (from frame)
