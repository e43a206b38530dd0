-- Gains put in place: how that changes the bits of granules, of side information, of a frame.
use Rattle.std.proofs.Common.{ap, append-nil, append_assoc, ap₂, arith, drop, false, get_or, length}
use Rattle.std.proofs.Common.{length-append, List, refl, sym, take, take-append-drop, true, ℕ, []}
use Rattle.std.proofs.Common.{◌*◌, ◌++◌, ◌+◌, ◌∙◌, ◌∷◌, ◌≡◌, ◌≤◌}
use Rattle.std.proofs.lemmas.List.{drop-drop, drop_at, length-take-le, take-take, take_at}
use Rattle.bit_fields.proofs.BitsLemmas.{AreBelow-drop, AreBelow-take, bytes-bits, length-bits_of}
use Rattle.bit_fields.proofs.GroupsLemmas.{length-group_bits}
use Rattle.bit_fields.specs.{Bits.{AreBytes, bits, bits_of, bytes}, Groups.group_bits}
use Rattle.frame_header.specs.{Fields.{ClassFields, HeaderFields, IsClass}, HeaderBits.flag_of}
use Rattle.frame_header.specs.{Tables.{class_of, side_size_of}, declared.version.Version.Version}
use Rattle.side_info.proofs.FrameLemmas.{frame_with_side-protected, frame_with_side-unprotected}
use Rattle.side_info.proofs.GranuleLemmas.{bits-parts, length-flat, length-granule_bits}
use Rattle.side_info.proofs.{SideLemmas.IsShaped, WriteLemmas.{flat_one, flat_two, side_bits-parts}}
use Rattle.side_info.specs.{CheckWord.check_word_of, Frame.frame_with_side}
use Rattle.side_info.specs.Granule.{compress_width, granule_bits, granule_size, no_granule}
use Rattle.side_info.specs.Granule.{preflag_width}
use Rattle.side_info.specs.Parts.{ArePairsAlike, front_size, pair_bits, PutsPair, second_pair_bits}
use Rattle.side_info.specs.Side.{front_widths_of, HasOtherGains, side_bits}
use Rattle.side_info.specs.declared.{granule.Granule.Granule, side.Side.Side}

-- ---- one granule and channel
regroup : (b f x r a : List ℕ) → b ++ ((f ++ (x ++ r)) ++ a) ≡ (b ++ f) ++ (x ++ (r ++ a))
regroup b f x r a = grind (arith, append_assoc)

-- eight bits put in place of eight others
put_between : (b f x r a y bs : List ℕ) (at : ℕ) → length b ≡ at → length f ≡ 21 → length x ≡ 8
    → bs ≡ b ++ ((f ++ (x ++ r)) ++ a)
    → take (at + 21) bs ++ y ++ drop (at + 21 + 8) bs ≡ b ++ ((f ++ (y ++ r)) ++ a)
put_between b f x r a y bs at lb lf lx e =
    grind (
      arith,
      length-append b f,
      length-append (b ++ f) x,
      regroup b f x r a,
      take_at,
      append_assoc (b ++ f) x (r ++ a),
      drop_at,
      append_assoc (b ++ f) y (r ++ a),
      regroup b f y r a,
    )

-- putting eight bits at the 21st bit of a granule changes its global_gain alone
pub gain_put : (version : Version) (g : Granule) (gain at : ℕ) (before after old new : List ℕ)
    → new ≡ take (at + 21) old ++ bits_of 8 gain ++ drop (at + 21 + 8) old → length before ≡ at
    → old ≡ before ++ (granule_bits version g ++ after)
    → new ≡ before ++ (granule_bits version (record g { global_gain = gain }) ++ after)
gain_put version g gain at before after old new put l e =
    let front : List ℕ = group_bits (12 ∷ 9 ∷ []) (g.part2_3_length ∷ g.big_values ∷ []) in
    let rest : List ℕ = group_bits (compress_width version ∷ 1 ∷ 22 ∷ preflag_width version ∷ 1 ∷ 1
    ∷ []) (g.scalefac_compress ∷ flag_of g.window_switching ∷ g.detail ∷ flag_of g.preflag
    ∷ flag_of g.scalefac_scale ∷ flag_of g.count1table_select ∷ []) in
    put
    ∙ put_between before front (bits_of 8 g.global_gain) rest after (bits_of 8 gain) old at l
    (length-group_bits (12 ∷ 9 ∷ []) (g.part2_3_length ∷ g.big_values ∷ []) refl)
    (length-bits_of 8 g.global_gain)
    (e ∙ ap (λ bs. before ++ (bs ++ after)) (bits-parts version g))
    ∙ ap (λ bs. before ++ (bs ++ after))
    (sym (bits-parts version (record g { global_gain = gain })))

-- ---- the channels of a granule
-- the bits of any granule that begins at bit `at` get this gain
abbrev pub PutsGain : ℕ → ℕ → List ℕ → List ℕ → Type 0
PutsGain gain at old new = (version : Version) (g : Granule) (before after : List ℕ)
    → length before ≡ at → old ≡ before ++ (granule_bits version g ++ after)
    → new ≡ before ++ (granule_bits version (record g { global_gain = gain }) ++ after)

-- the one channel of a granule gets its gain
pub one_put : (version : Version) {channels at : ℕ} (gs hs : List Granule)
    (before after : List ℕ) {old new : List ℕ} → channels ≡ 1 → length hs ≡ 2
    → PutsGain (get_or hs 0 no_granule).global_gain at old new → length gs ≡ 2 → length before ≡ at
    → old ≡ before ++ (pair_bits version channels gs ++ after) → ArePairsAlike gs hs
    → new ≡ before ++ (pair_bits version channels hs ++ after)
one_put version gs hs before after one two put l b e alike = grind (arith, flat_one)

-- both channels of a granule get their gains, the first and then the second
pub both_put : (version : Version) {channels at next : ℕ} (gs hs : List Granule)
    (before after : List ℕ) {old middle new : List ℕ} → channels ≡ 2 → length hs ≡ 2
    → next ≡ at + granule_size version → PutsGain (get_or hs 0 no_granule).global_gain at old middle
    → PutsGain (get_or hs 1 no_granule).global_gain next middle new → length gs ≡ 2
    → length before ≡ at → old ≡ before ++ (pair_bits version channels gs ++ after)
    → ArePairsAlike gs hs → new ≡ before ++ (pair_bits version channels hs ++ after)
both_put version {channels} {next = next} gs hs before after
    {middle = middle} both two offset first second l b e alike =
    let g0 : List ℕ = granule_bits version (get_or gs 0 no_granule) in
    let g1 : List ℕ = granule_bits version (get_or gs 1 no_granule) in
    let h0 : List ℕ = granule_bits version (get_or hs 0 no_granule) in
    let h1 : List ℕ = granule_bits version (get_or hs 1 no_granule) in
    let was : pair_bits version channels gs ≡ g0 ++ g1 =
    ap (λ n. pair_bits version n gs) both ∙ flat_two version gs l in
    let is : pair_bits version channels hs ≡ h0 ++ h1 =
    ap (λ n. pair_bits version n hs) both ∙ flat_two version hs two in
    let one : middle ≡ before ++ (h0 ++ (g1 ++ after)) =
    first version (get_or gs 0 no_granule) before (g1 ++ after) b (e
    ∙ ap (λ bs. before ++ (bs ++ after)) was ∙ ap (λ bs. before ++ bs) (append_assoc g0 g1 after))
    ∙ ap (λ g. before ++ (granule_bits version g ++ (g1 ++ after))) (alike 0) in
    let long : length (before ++ h0) ≡ next =
    omega (arith, length-append before h0, length-granule_bits version (get_or hs 0 no_granule)) in
    second version (get_or gs 1 no_granule) (before ++ h0) after long
    (one ∙ sym (append_assoc before h0 (g1 ++ after)))
    ∙ ap (λ g. (before ++ h0) ++ (granule_bits version g ++ after)) (alike 1)
    ∙ append_assoc before h0 (h1 ++ after)
    ∙ ap (λ bs. before ++ bs) (sym (append_assoc h0 h1 after))
    ∙ ap (λ bs. before ++ (bs ++ after)) (sym is)

-- ---- the side information
length-pair_bits : (version : Version) {channels : ℕ} (gs : List Granule) → length gs ≡ 2
    → channels ≤ 2 → length (pair_bits version channels gs) ≡ channels * granule_size version
length-pair_bits version gs two few = grind (arith, length-flat, length-take-le)

four_widths : (version : Version) (channels : ℕ) → length (front_widths_of version channels) ≡ 4
four_widths version channels = grind arith

length-front : (version : Version) (channels m p : ℕ) (cs : List ℕ) → length cs ≡ 2
    → length (group_bits (front_widths_of version channels) (m ∷ p ∷ cs))
    ≡ front_size version channels
length-front version channels m p cs two = grind (arith, length-group_bits, four_widths)

-- the granules of a frame get their gains in order
pub all_put_gains : (c : ClassFields) → IsClass c → {t : Side} → IsShaped t
    → {old middle new : List ℕ} {begin next : ℕ} → begin ≡ front_size c.version c.channels
    → next ≡ front_size c.version c.channels + c.channels * granule_size c.version
    → PutsPair (pair_bits c.version c.channels) (get_or t.granules 0 []) begin old middle
    → PutsPair (second_pair_bits c.version c.channels) (get_or t.granules 1 []) next middle new
    → {s : Side} → IsShaped s → old ≡ side_bits c s → HasOtherGains s t → new ≡ side_bits c t
all_put_gains c class {t} t_shaped {old} {middle} {next = next} begin_is next_is
    first second {s} s_shaped e other =
    let v : Version = c.version in
    let ch : ℕ = c.channels in
    let front : List ℕ =
    group_bits (front_widths_of v ch) (t.main_data_begin ∷ t.private_bits ∷ t.scfsi) in
    let same : group_bits (front_widths_of v ch) (s.main_data_begin ∷ s.private_bits ∷ s.scfsi)
    ≡ front = λ i. group_bits (front_widths_of v ch)
    (sym other.main_data_begin i ∷ sym other.private_bits i ∷ sym other.scfsi i) in
    let g0 : List ℕ = pair_bits v ch (get_or s.granules 0 []) in
    let g1 : List ℕ = second_pair_bits v ch (get_or s.granules 1 []) in
    let h0 : List ℕ = pair_bits v ch (get_or t.granules 0 []) in
    let h1 : List ℕ = second_pair_bits v ch (get_or t.granules 1 []) in
    let was : old ≡ front ++ (g0 ++ g1) = e ∙ side_bits-parts c s s_shaped.granules
    ∙ ap (λ f. (f ++ g0) ++ g1) same ∙ append_assoc front g0 g1 in
    let long : length front ≡ front_size v ch =
    length-front v ch t.main_data_begin t.private_bits t.scfsi t_shaped.scfsi in
    let one : middle ≡ front ++ (h0 ++ g1) = first (get_or s.granules 0 []) front g1
    s_shaped.first (long ∙ sym begin_is) was (λ channel. other.granules 0 channel) in
    let more : length (front ++ h0) ≡ next = omega (
      arith,
      length-append front h0,
      length-pair_bits v (get_or t.granules 0 []) t_shaped.first class.2,
    ) in
    second (get_or s.granules 1 []) (front ++ h0) [] s_shaped.second more
    (one ∙ sym (append_assoc front h0 g1) ∙ ap (λ bs. (front ++ h0) ++ bs) (sym (append-nil g1)))
    (λ channel. other.granules 1 channel)
    ∙ ap (λ bs. (front ++ h0) ++ bs) (append-nil h1)
    ∙ sym (side_bits-parts c t t_shaped.granules)

-- ---- a frame
-- the bytes from an offset on, where the bits of the first of them are known
bytes_there : (offset size : ℕ) (frame : List ℕ) {bs : List ℕ} → AreBytes (drop offset frame)
    → bits (take size (drop offset frame)) ≡ bs
    → drop offset frame ≡ bytes bs ++ drop (offset + size) frame
bytes_there offset size frame all e =
    sym (take-append-drop size (drop offset frame))
    ∙ ap₂ (λ xs ys. xs ++ ys) (sym (bytes-bits (take size (drop offset frame))
    (AreBelow-take 256 size (drop offset frame) all)) ∙ ap bytes e) (drop-drop size offset frame)

-- an unprotected frame whose side bytes were replaced is the frame with this side information
pub gains-unprotected : (h : HeaderFields) (s : Side) (old : List ℕ) {new : List ℕ}
    → h.protected ≡ false → AreBytes new → take 4 new ≡ take 4 old
    → drop (4 + side_size_of (class_of h)) new ≡ drop (4 + side_size_of (class_of h)) old
    → bits (take (side_size_of (class_of h)) (drop 4 new)) ≡ side_bits (class_of h) s
    → new ≡ frame_with_side h s old
gains-unprotected h s old is all front behind side =
    grind (arith, take-append-drop, bytes_there, AreBelow-drop, frame_with_side-unprotected)

-- a protected frame whose side bytes and check word were replaced is the frame with this side
-- information
pub gains-protected : (h : HeaderFields) (s : Side) (old middle : List ℕ) {new : List ℕ}
    → h.protected ≡ true → AreBytes (drop 6 middle) → take 6 middle ≡ take 6 old
    → drop (6 + side_size_of (class_of h)) middle ≡ drop (6 + side_size_of (class_of h)) old
    → bits (take (side_size_of (class_of h)) (drop 6 middle)) ≡ side_bits (class_of h) s
    → new ≡ take 4 middle ++ (bytes (bits_of 16 (check_word_of h s)) ++ drop 6 middle)
    → new ≡ frame_with_side h s old
gains-protected h s old middle is all front behind side put =
    grind (arith, take-take, bytes_there, frame_with_side-protected)
