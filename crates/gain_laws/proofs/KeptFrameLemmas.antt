-- A frame with moved gains differs from the original only in gains and in the check word.
use Rattle.std.proofs.Common.{ap, append_assoc, ap₂, arith, Bool, cond, drop, false, flat_map}
use Rattle.std.proofs.Common.{length, length-drop, length-take, List, MatchBool, not, refl, subst}
use Rattle.std.proofs.Common.{sum, sym, take, take-append-drop, true, ℕ, ℤ, [], ◌++◌, ◌∙◌, ◌∷◌, ◌≡◌}
use Rattle.std.proofs.{Common.◌≤◌, lemmas.Bool.{false≢true, not-false}}
use Rattle.std.proofs.lemmas.List.{drop-append-le, drop-drop, drop_at, take-append-le, take_at}
use Rattle.bit_fields.proofs.BitsLemmas.{bits-append, bits-bytes, bits-nil, length-bits}
use Rattle.bit_fields.proofs.{BitsLemmas.length-bits_of, GroupsLemmas.{length-group_bits, sum-cons}}
use Rattle.bit_fields.specs.{Bits.{AreBytes, bits, bits_of, bytes}, Groups.group_bits}
use Rattle.frame_header.specs.Fields.{ClassFields, HeaderFields, IsClass}
use Rattle.frame_header.specs.HeaderBits.{flag_of, header_widths}
use Rattle.frame_header.specs.Tables.{class_of, overhead_of, side_size_of}
use Rattle.frame_header.specs.declared.version.Version.{Version, TheVariants.{One, Two}}
use Rattle.gain_laws.proofs.WholeFrameLemmas.{frame_of, IsFrameOf}
use Rattle.gain_laws.specs.Kept.{crc_fields, DiffersInFields, DiffersInGains, Field, fixed_fields}
use Rattle.gain_laws.specs.Kept.{frame_fields, granule_fields, MayBecome, side_fields}
use Rattle.moved_gains.proofs.MovedFrameLemmas.{IsWhole, moved_whole, whole_class, whole_room}
use Rattle.moved_gains.proofs.{MovedGainLemmas.IsShaped-moved, WrittenLemmas.append_three}
use Rattle.moved_gains.specs.Edited.{moved_frame}
use Rattle.moved_gains.specs.Gains.{is_silent_granule, moved_gain, moved_granule, moved_side}
use Rattle.moved_gains.specs.Moving.{moved_row_bytes}
use Rattle.requests.specs.declared.shift.Steps.{Steps}
use Rattle.side_info.proofs.FrameLemmas.{frame_with_side-own, HasRoom, IsRight, length-word}
use Rattle.side_info.proofs.FrameLemmas.{overhead-is, room-least, room-protected, shaped-side_in}
use Rattle.side_info.proofs.{FrameLemmas.side_there, GranuleLemmas.bits-parts}
use Rattle.side_info.proofs.SideLemmas.{AreBits-side_bits, each_class, each_shaped, IsShaped}
use Rattle.side_info.{proofs.SideLemmas.length-side_bits, specs.CheckWord.check_word_of}
use Rattle.side_info.specs.Frame.{crc_part, frame_with_side, side_in, side_offset, side_part}
use Rattle.side_info.specs.{Granule.{compress_width, granule_bits, preflag_width}, Parts.class_with}
use Rattle.side_info.specs.Side.{front_widths, granules_in, side_bits}
use Rattle.side_info.specs.declared.{granule.Granule.Granule, side.Side.Side}
use Rattle.sync_survey.specs.Row.{Row}

-- ---- fields in order

-- fields that stay, and those after them
fixed_fields-same : (widths xs : List ℕ) (fields : List Field) (old new : List ℕ)
    → length xs ≡ sum widths → DiffersInFields fields old new
    → DiffersInFields (fixed_fields widths ++ fields) (xs ++ old) (xs ++ new)
fixed_fields-same [] [] fields old new e same = same
fixed_fields-same [] (x ∷ xs) fields old new e same = absurd cc
fixed_fields-same (w ∷ ws) xs fields old new e same =
    let within : w ≤ length xs = omega (arith, e, sum-cons w ws) in
    let left : length (drop w xs) ≡ sum ws = omega (arith, e, sum-cons w ws, length-drop w xs) in
    let next = fixed_fields-same ws (drop w xs) fields old new left same in (
      λ stays. take-append-le w xs new within ∙ sym (take-append-le w xs old within),
      subst (λ l. DiffersInFields (fixed_fields ws ++ fields) l (drop w (xs ++ new)))
          (sym (drop-append-le w xs old within))
          (subst (λ l. DiffersInFields (fixed_fields ws ++ fields) (drop w xs ++ old) l)
          (sym (drop-append-le w xs new within)) next),
    )

-- a field that may change, and those after it
changing_same : {changes : Bool} {width : ℕ} {xs ys : List ℕ} (fields : List Field)
    (old new : List ℕ) → length xs ≡ width → length ys ≡ width → (changes ≡ false → ys ≡ xs)
    → DiffersInFields fields old new
    → DiffersInFields (record { width = width; changes = changes } ∷ fields) (xs ++ old) (ys ++ new)
changing_same fields old new m n same later = grind (arith, take_at, drop_at)

-- ---- granules

-- a granule with another gain, which is its own if it is silent
other_gain : (version : Version) (g : Granule) {gain : ℕ} (fields : List Field) (old new : List ℕ)
    → (is_silent_granule g ≡ true → gain ≡ g.global_gain) → DiffersInFields fields old new
    → DiffersInFields (granule_fields version g ++ fields) (granule_bits version g ++ old)
    (granule_bits version (record g { global_gain = gain }) ++ new)
other_gain version g {gain} fields old new silent later =
    let before = group_bits (12 ∷ 9 ∷ []) (g.part2_3_length ∷ g.big_values ∷ []) in
    let widths : List ℕ = compress_width version ∷ 1 ∷ 22 ∷ preflag_width version ∷ 1 ∷ 1 ∷ [] in
    let numbers : List ℕ = g.scalefac_compress ∷ flag_of g.window_switching ∷ g.detail
    ∷ flag_of g.preflag ∷ flag_of g.scalefac_scale ∷ flag_of g.count1table_select ∷ [] in
    let behind = group_bits widths numbers in
    let rest : DiffersInFields (fixed_fields widths ++ fields) (behind ++ old) (behind ++ new) =
    fixed_fields-same widths behind fields old new (length-group_bits widths numbers refl) later in
    let field : Field = record { width = 8; changes = not (is_silent_granule g) } in
    let own = changing_same
    (fixed_fields widths ++ fields) (behind ++ old) (behind ++ new) (length-bits_of 8 g.global_gain)
    (length-bits_of 8 gain)
    (λ stays. ap (bits_of 8) (silent (not-false (is_silent_granule g) stays))) rest in
    let all = fixed_fields-same (12 ∷ 9 ∷ []) before (field ∷ (fixed_fields widths ++ fields))
    (bits_of 8 g.global_gain ++ (behind ++ old)) (bits_of 8 gain ++ (behind ++ new))
    (length-group_bits (12 ∷ 9 ∷ []) (g.part2_3_length ∷ g.big_values ∷ []) refl) own in
    let old_is : granule_bits version g ++ old
    ≡ before ++ (bits_of 8 g.global_gain ++ (behind ++ old)) =
    grind (arith, bits-parts, append_three) in
    let new_is : granule_bits version (record g { global_gain = gain }) ++ new
    ≡ before ++ (bits_of 8 gain ++ (behind ++ new)) = grind (arith, bits-parts, append_three) in
    subst (λ l. DiffersInFields (granule_fields version g ++ fields) l
    (granule_bits version (record g { global_gain = gain }) ++ new)) (sym old_is)
    (subst (λ l. DiffersInFields (granule_fields version g ++ fields)
    (before ++ (bits_of 8 g.global_gain ++ (behind ++ old))) l) (sym new_is) all)

moved_granule-same : (version : Version) (steps : ℤ) (g : Granule) (fields : List Field)
    (old new : List ℕ) → DiffersInFields fields old new
    → DiffersInFields (granule_fields version g ++ fields)
    (granule_bits version g ++ old) (granule_bits version (moved_granule steps g) ++ new)
moved_granule-same version steps g fields old new later = by_silent (is_silent_granule g) refl
  where
    by_silent : (b : Bool) → is_silent_granule g ≡ b → DiffersInFields (granule_fields version g
        ++ fields) (granule_bits version g ++ old) (granule_bits version (cond b g (record g {
          global_gain = moved_gain steps g.global_gain;
        })) ++ new)
    by_silent true is = other_gain version g fields old new (λ silent. refl) later
    by_silent false is = other_gain version g fields old new
        (λ silent. absurd (false≢true (sym is ∙ silent))) later

-- each of these granules is one of the others, moved by some steps
abbrev AreMoved : List Granule → List Granule → Type 0
AreMoved [] [] = Unit {0}
AreMoved (g ∷ gs) (h ∷ hs) = ((steps : ℤ) × (moved_granule steps g ≡ h)) × AreMoved gs hs
AreMoved _ _ = ⊥

all_same : (version : Version) (gs hs : List Granule) (area : List ℕ) → AreMoved gs hs
    → DiffersInFields (flat_map (granule_fields version) gs)
    (flat_map (granule_bits version) gs ++ area)
    (flat_map (granule_bits version) hs ++ area)
all_same version [] [] area moved_granule = refl
all_same version (g ∷ gs) (h ∷ hs) area moves =
    grind (arith, flat_map, moved_granule-same, append_assoc, all_same version gs hs area moves.1)
all_same version _ _ area moved_granule = absurd moved_granule

granules_moved : (steps : Steps) (c : ClassFields) → IsClass c → (s : Side) → IsShaped s
    → AreMoved (granules_in c s) (granules_in c (moved_side steps s))
unfolding granules_in moved_side
granules_moved steps =
    each_class (λ c. (s : Side) → IsShaped s
    → AreMoved (granules_in c s) (granules_in c (moved_side steps s)))
    (λ f. each_shaped (λ s. AreMoved (granules_in (class_with One f 1) s)
    (granules_in (class_with One f 1) (moved_side steps s)))
    (λ m p a b g h k l. ((steps.left, refl), ((steps.left, refl), tt))))
    (λ f. each_shaped (λ s. AreMoved (granules_in (class_with One f 2) s)
    (granules_in (class_with One f 2) (moved_side steps s)))
    (λ m p a b g h k l.
    ((steps.left, refl), ((steps.right, refl), ((steps.left, refl), ((steps.right, refl), tt))))))
    (λ f. each_shaped (λ s. AreMoved (granules_in (class_with Two f 1) s) (granules_in
    (class_with Two f 1) (moved_side steps s))) (λ m p a b g h k l. ((steps.left, refl), tt)))
    (λ f. each_shaped (λ s. AreMoved (granules_in (class_with Two f 2) s)
    (granules_in (class_with Two f 2) (moved_side steps s)))
    (λ m p a b g h k l. ((steps.left, refl), ((steps.right, refl), tt))))
    (λ f channels two. two)

-- ---- the side information

-- the fields of the side information, and the bits after them, which are the same
side_same : (steps : Steps) (c : ClassFields) → IsClass c → {s : Side} → IsShaped s
    → (area : List ℕ) → DiffersInFields (fixed_fields (front_widths c)
    ++ flat_map (granule_fields c.version) (granules_in c s))
    (side_bits c s ++ area) (side_bits c (moved_side steps s) ++ area)
unfolding side_bits moved_side
side_same steps c class {s} shaped area =
    let t = moved_side steps s in
    let front = group_bits (front_widths c) (s.main_data_begin ∷ s.private_bits ∷ s.scfsi) in
    let long : length front ≡ sum (front_widths c) = grind (arith, length-group_bits) in
    let old = flat_map (granule_bits c.version) (granules_in c s) in
    let new = flat_map (granule_bits c.version) (granules_in c t) in
    let fields =
    fixed_fields (front_widths c) ++ flat_map (granule_fields c.version) (granules_in c s) in
    let same = fixed_fields-same (front_widths c) front (flat_map (granule_fields c.version)
    (granules_in c s)) (old ++ area) (new ++ area) long (all_same c.version (granules_in c s)
    (granules_in c t) area (granules_moved steps c class s shaped)) in
    subst (λ l. DiffersInFields fields l ((front ++ new) ++ area))
    (sym (append_assoc front old area))
    (subst (λ l. DiffersInFields fields (front ++ (old ++ area)) l)
    (sym (append_assoc front new area)) same)
  where
    front-long : (c : ClassFields) → IsClass c → (s : Side) → IsShaped s
        → length (s.main_data_begin ∷ s.private_bits ∷ s.scfsi) ≡ length (front_widths c)
    front-long c class s shaped = omega (arith, shaped.scfsi, four c class)
      where
        four : (c : ClassFields) → IsClass c → length (front_widths c) ≡ 4
        four = each_class (λ c. length (front_widths c) ≡ 4) (λ f. refl) (λ f. refl) (λ f. refl)
            (λ f. refl) (λ f channels two. two)

-- ---- the check word

word_same : (protected : Bool) (xs ys : List ℕ) (fields : List Field) (old new : List ℕ)
    → (protected ≡ true → length xs ≡ 2) → length ys ≡ 2 → DiffersInFields fields old new
    → DiffersInFields (crc_fields protected ++ fields) (bits (cond protected xs []) ++ old)
    (bits (cond protected ys []) ++ new)
word_same true xs ys fields old new m n later =
    let x : length (bits xs) ≡ 16 = omega (arith, length-bits xs, m refl) in
    let y : length (bits ys) ≡ 16 = omega (arith, length-bits ys, n) in
    changing_same fields old new x y
    (λ stays. absurd (false≢true (sym stays))) later
word_same false xs ys fields old new m n later = grind (arith, bits-nil)

-- ---- a frame

-- the bytes of the check word that is in a frame
abbrev own_word : Bool → List ℕ → List ℕ
own_word protected frame = cond protected (take 2 (drop 4 frame)) []

behind_word : (protected : Bool) (frame : List ℕ)
    → drop 4 frame ≡ own_word protected frame ++ drop (side_offset protected) frame
behind_word protected frame = grind arith

-- a frame, part by part
parts : (h : HeaderFields) {frame : List ℕ} → IsClass (class_of h) → AreBytes frame
    → HasRoom h frame → frame ≡ take 4 frame ++ (own_word h.protected frame ++ (bytes (side_bits
    (class_of h) (side_in h frame)) ++ drop (overhead_of (class_of h) h.protected) frame))
unfolding side_part
parts h {frame} class all room =
    let c = class_of h in
    let place = side_offset h.protected in
    let size = side_size_of c in
    let behind = drop place frame in
    let rest : drop size behind ≡ drop (overhead_of c h.protected) frame =
    drop-drop size place frame ∙ ap (λ n. drop n frame) (sym (overhead-is c h.protected)) in
    sym (take-append-drop 4 frame)
    ∙ ap (λ (l : List ℕ). take 4 frame ++ l)
    (behind_word h.protected frame
    ∙ ap (λ (l : List ℕ). own_word h.protected frame ++ l)
    (sym (take-append-drop size behind)
    ∙ ap₂ (λ (xs ys : List ℕ). xs ++ ys) (sym (side_there h frame class all room)) rest))

-- the bits of four parts
bits-four : (a b c d : List ℕ)
    → bits (a ++ (b ++ (c ++ d))) ≡ bits a ++ (bits b ++ (bits c ++ bits d))
bits-four a b c d = grind (arith, bits-append)

side-spelled : (c : ClassFields) {s : Side} → IsClass c → IsShaped s
    → bits (bytes (side_bits c s)) ≡ side_bits c s
side-spelled c {s} class shaped = bits-bytes (side_size_of c) (AreBits-side_bits c s)
    (length-side_bits c class s shaped)

frame_same : (steps : Steps) (h : HeaderFields) (frame : List ℕ) → IsClass (class_of h)
    → AreBytes frame → HasRoom h frame → DiffersInFields (frame_fields h (side_in h frame))
    (bits frame) (bits (moved_frame steps h frame))
unfolding frame_with_side
frame_same steps h frame class all room =
    let c = class_of h in
    let s = side_in h frame in
    let t = moved_side steps s in
    let front = take 4 frame in
    let area = drop (overhead_of c h.protected) frame in
    let shaped = shaped-side_in h frame in
    let long : length front ≡ 4 = omega (arith, room-least h frame room, length-take 4 frame) in
    let header : length (bits front) ≡ sum header_widths = omega (arith, length-bits front, long) in
    let own : h.protected ≡ true → length (take 2 (drop 4 frame)) ≡ 2 = λ is. omega
    (arith, room-protected h frame is room, length-take 2 (drop 4 frame), length-drop 4 frame) in
    let word = bytes (bits_of 16 (check_word_of h t)) in
    let fields = side_fields h s in
    let same = fixed_fields-same header_widths (bits front) (crc_fields h.protected ++ fields)
    (bits (own_word h.protected frame) ++ (side_bits c s ++ bits area))
    (bits (crc_part h t) ++ (side_bits c t ++ bits area)) header
    (word_same h.protected (take 2 (drop 4 frame)) word fields (side_bits c s ++ bits area)
    (side_bits c t ++ bits area) own (length-word (check_word_of h t))
    (side_same steps c class shaped (bits area))) in
    let old_is : bits frame
    ≡ bits front ++ (bits (own_word h.protected frame) ++ (side_bits c s ++ bits area)) =
    ap bits (parts h class all room)
    ∙ bits-four front (own_word h.protected frame) (bytes (side_bits c s)) area
    ∙ ap (λ l. bits front ++ (bits (own_word h.protected frame) ++ (l ++ bits area)))
    (side-spelled c class shaped) in
    let new_is : bits (moved_frame steps h frame)
    ≡ bits front ++ (bits (crc_part h t) ++ (side_bits c t ++ bits area)) =
    bits-four front (crc_part h t) (bytes (side_bits c t)) area
    ∙ ap (λ l. bits front ++ (bits (crc_part h t) ++ (l ++ bits area)))
    (side-spelled c class (IsShaped-moved steps shaped)) in
    subst (λ l. DiffersInFields (frame_fields h s) l (bits (moved_frame steps h frame)))
    (sym old_is)
    (subst (λ l. DiffersInFields (frame_fields h s) (bits front
    ++ (bits (own_word h.protected frame) ++ (side_bits c s ++ bits area))) l) (sym new_is) same)

frame_differs : (steps : Steps) {h : HeaderFields} {frame : List ℕ} → IsWhole h frame
    → IsRight h frame → DiffersInGains h frame (moved_frame steps h frame)
frame_differs steps {h} {frame} whole right =
    grind (
      arith,
      whole_class whole,
      whole_room whole,
      moved_whole false steps whole,
      frame_same,
      frame_with_side-own,
    )

-- a frame of a file may become the frame with moved gains; a lost frame stays
pub row_differs : (steps : Steps) {file : List ℕ} {row : Row} → IsFrameOf file row
    → MayBecome row (frame_of file row) (moved_row_bytes steps file row)
row_differs steps {file} {row} here = by_lost row.lost
  where
    h : HeaderFields
    h = row.header

    frame : List ℕ
    frame = frame_of file row

    by_lost : (lost : Bool) → MatchBool lost
        (cond lost frame (frame_with_side h (moved_side steps row.side) frame) ≡ frame)
        (DiffersInGains h frame
        (cond lost frame (frame_with_side h (moved_side steps row.side) frame)))
    by_lost lost = grind (arith, frame_differs)
