-- Laws of the Info frame: its slot has room for the fields, and no slot with room has a smaller
-- area.
use Rattle.std.proofs.Common.{ap, arith, Bool, cond, drop, false, get_or, inl, inr, length, List}
use Rattle.std.proofs.Common.{lit≤, nat_le, Ok, refl, replicate, subst, suc, sym, true, zero, ℕ, []}
use Rattle.std.proofs.Common.{◌++◌, ◌+◌, ◌-◌, ◌<◌, ◌∙◌, ◌∷◌, ◌≡◌, ◌≤◌}
use Rattle.std.proofs.lemmas.Bool.{cases_lt, le-leb, leb-true, lt-leb}
use Rattle.std.proofs.lemmas.List.{drop_all, drop_more, get_or-map}
use Rattle.bit_fields.proofs.BitsLemmas.{AreBytes-bytes, bits-bytes, length-bytes}
use Rattle.bit_fields.specs.Bits.{AreBytes, bytes}
use Rattle.frame_header.proofs.HeaderLemmas.{AreBits-header_bits, header_at-bytes}
use Rattle.frame_header.proofs.HeaderLemmas.{IsHeader-header_at, length-header_bits}
use Rattle.frame_header.proofs.SlotLemmas.{areas-ascend, Contains-all_slots, length-all_slots}
use Rattle.frame_header.proofs.SlotLemmas.{length-areas_of, window-spanned}
use Rattle.frame_header.specs.Fields.{ClassFields, HeaderFields, IsClass, IsSlot, SlotFields}
use Rattle.frame_header.specs.{HeaderBits.header_bits, Reading.header_at}
use Rattle.frame_header.specs.Slots.{all_slots, areas_of, largest_slot}
use Rattle.frame_header.specs.Tables.{area_of, class_of, length_of, overhead_of, side_size_of}
use Rattle.frame_header.specs.{Tables.window_of, declared.version.Version.Version}
use Rattle.frame_header.specs.declared.version.Version.TheVariants.{One}
use Rattle.info_header.specs.Info.{info_bytes}
use Rattle.info_header.specs.InfoFrame.{first_with_room, info_frame, info_header_of, info_slot_of}
use Rattle.info_header.specs.declared.fields.Info.{Info}

-- ---- the loop over the slots

first_next : (c : ClassFields) (slots : List SlotFields) {i : ℕ} {slot : SlotFields}
    → i < length slots → slot ≡ get_or slots i slot →
    first_with_room c (drop i slots)
    ≡ cond (nat_le 156 (area_of c slot false)) slot (first_with_room c (drop (i + 1) slots))
unfolding first_with_room
first_next c slots {i} {slot} within is =
    ap (first_with_room c) (drop_more slots i slot within) ∙ ap
    (λ s. cond (nat_le 156 (area_of c s false)) s (first_with_room c (drop (i + 1) slots))) (sym is)

-- the first slot whose area has 156 bytes is this one, if it has them
pub first-here : (c : ClassFields) (slots : List SlotFields) {i : ℕ} {slot : SlotFields}
    → i < length slots → slot ≡ get_or slots i slot → 156 ≤ area_of c slot false →
    first_with_room c (drop i slots) ≡ slot
first-here c slots {i} {slot} within is room =
    first_next c slots within is ∙ ap (λ b. cond b slot
    (first_with_room c (drop (i + 1) slots))) (le-leb 156 (area_of c slot false) room)

-- if it hasn't, it is the first of the slots after it
pub first-later : (c : ClassFields) (slots : List SlotFields) {i : ℕ} {slot : SlotFields}
    → i < length slots → slot ≡ get_or slots i slot → area_of c slot false < 156 →
    first_with_room c (drop i slots) ≡ first_with_room c (drop (i + 1) slots)
first-later c slots {i} {slot} within is small =
    first_next c slots within is ∙ ap (λ b. cond b slot
    (first_with_room c (drop (i + 1) slots))) (lt-leb 156 (area_of c slot false) small)

-- past the last slot it is the largest slot
pub first-none : (c : ClassFields) (slots : List SlotFields) {i : ℕ} → length slots ≤ i
    → first_with_room c (drop i slots) ≡ largest_slot
unfolding first_with_room
first-none c slots {i} end = ap (first_with_room c) (drop_all i slots end)

-- ---- it has room

window_some : (version : Version) → 255 ≤ window_of version
window_some One = lit≤ tt
window_some _ = lit≤ tt

room_if : (c : ClassFields) (slot other : SlotFields) (b : Bool) → nat_le 156 (area_of c slot false)
    ≡ b → 156 ≤ area_of c other false → 156 ≤ area_of c (cond b slot other) false
room_if c slot other true is behind = leb-true 156 (area_of c slot false) is
room_if c slot other false is behind = behind

room_in : (c : ClassFields) → IsClass c → (slots : List SlotFields)
    → 156 ≤ area_of c (first_with_room c slots) false
unfolding first_with_room
room_in c class [] = omega (arith, window-spanned c class, window_some c.version)
room_in c class (slot ∷ slots) = room_if c slot (first_with_room c slots)
    (nat_le 156 (area_of c slot false)) refl (room_in c class slots)

-- the slot of an Info frame has room for its fields
pub info_slot-room : (c : ClassFields) → IsClass c → 156 ≤ area_of c (info_slot_of c) false
unfolding info_slot_of
info_slot-room c class = room_in c class all_slots

-- ---- it has the smallest area

-- the first slot with room is at place k or before it
record IsBy (c : ClassFields) (slots : List SlotFields) (k : ℕ) (d : SlotFields) : Type 0 where
  at : ℕ
  early : at ≤ k
  is : first_with_room c slots ≡ get_or slots at d

by_if : {c : ClassFields} {slot : SlotFields} {slots : List SlotFields} {k : ℕ} {d : SlotFields}
    (b : Bool) → nat_le 156 (area_of c slot false) ≡ b → (b ≡ false → IsBy c slots k d)
    → IsBy c (slot ∷ slots) (suc k) d
unfolding first_with_room
by_if {c} {slot} {slots} true is behind =
    record { at = 0; early = omega arith; is = ap (λ b. cond b slot (first_with_room c slots)) is }
by_if {c} {slot} {slots} false is behind =
    let later = behind refl in
    record {
      at = suc later.at;
      early = omega (arith, later.early);
      is =
          ap (λ b. cond b slot (first_with_room c slots)) is ∙ later.is;
    }

first_by : {c : ClassFields} (slots : List SlotFields) (k : ℕ) {d : SlotFields} → k < length slots
    → 156 ≤ area_of c (get_or slots k d) false → IsBy c slots k d
unfolding first_with_room
first_by [] k within room = absurd (omega (arith, within))
first_by {c} (slot ∷ slots) zero within room =
    record {
      at = 0;
      early = omega arith;
      is =
          ap (λ b. cond b slot (first_with_room c slots)) (le-leb 156 (area_of c slot false) room);
    }
first_by {c} (slot ∷ slots) (suc k) {d} within room =
    by_if (nat_le 156 (area_of c slot false)) refl
    (λ _. first_by slots k (omega arith) room)

-- the areas of the slots, by their places
area_at : (c : ClassFields) {k : ℕ} (d : SlotFields) → k < 28
    → get_or (areas_of c false) k 0 ≡ area_of c (get_or all_slots k d) false
unfolding areas_of
area_at c {k} d within =
    get_or-map (λ s. area_of c s false) all_slots k d 0 (omega (arith, length-all_slots))

-- no slot with room has a smaller area
pub info_slot-least : (c : ClassFields) → IsClass c → (other : SlotFields) → IsSlot other
    → 156 ≤ area_of c other false → area_of c (info_slot_of c) false ≤ area_of c other false
unfolding info_slot_of
info_slot-least c class other slot room =
    let has = Contains-all_slots other slot in
    let below : has.0 < 28 = omega (arith, has.1, length-all_slots) in
    let first = first_by {c = c} all_slots has.0 {d = other}
    has.1 (subst (λ s. 156 ≤ area_of c s false) (sym has.2) room) in
    let here : area_of c (info_slot_of c) false
    ≡ area_of c (get_or all_slots first.at other) false = ap (λ s. area_of c s false) first.is in
    let there : area_of c (get_or all_slots has.0 other) false ≡ area_of c other false =
    ap (λ s. area_of c s false) has.2 in
    elim (cases_lt first.at has.0)
    as (λ _. area_of c (info_slot_of c) false ≤ area_of c other false) [
      | inl before ↦
          let ascend = areas-ascend c class false first.at has.0 0 before
          (omega (arith, below, length-areas_of c false)) in
          omega (
            arith,
            here,
            there,
            ascend,
            area_at c {k = first.at} other (omega (arith, below, before)),
            area_at c {k = has.0} other below,
          )
      | inr same ↦
          let equal : first.at ≡ has.0 = omega (arith, first.early, same) in
          omega (arith, here, there, ap (λ k. area_of c (get_or all_slots k other) false) equal)
    ]

-- ---- the frame

-- header, zeros, fields and zeros, joined in this order, are the Info frame
pub frame-is : (first : HeaderFields) (info : Info) {new cleared header : List ℕ} {side rest : ℕ}
    → cleared ≡ [] → header ≡ bytes (header_bits (info_header_of first)) →
    side ≡ side_size_of (class_of first)
    → rest ≡ area_of (class_of first) (info_slot_of (class_of first)) false - 156 →
    new ≡ cleared ++ (header ++ (replicate side 0 ++ (info_bytes info ++ replicate rest 0)))
    → new ≡ info_frame first info
unfolding info_frame
frame-is first info none is sides left pieces = pieces ∙ rw (none, is, sides, left) refl

-- the zeros after the fields fill the rest of the area
pub zeros-left : (c : ClassFields) (slot : SlotFields) {length side : ℕ} → length ≡ length_of c slot
    → side ≡ side_size_of c → length - (4 + side + 156) ≡ area_of c slot false - 156
unfolding area_of overhead_of
zeros-left c slot is sides = omega (arith, is, sides)

-- the bytes of a header are the bytes that its bits spell
pub header_bytes-is : {h : HeaderFields} {result : List ℕ} → header_at result ≡ Ok h
    → ((four : List ℕ) → AreBytes four → length four ≡ 4 → header_at four ≡ Ok h → result ≡ four) →
    result ≡ bytes (header_bits h)
header_bytes-is {h} {result} back same =
    let all = AreBits-header_bits h in
    let long = length-header_bits h in
    same (bytes (header_bits h)) (AreBytes-bytes (header_bits h) all)
    (length-bytes 4 (header_bits h) long)
    (header_at-bytes (bytes (header_bits h)) (IsHeader-header_at result back)
    (bits-bytes 4 all long))

-- a frame whose area has room for the fields is long enough for them
pub fields-fit : (c : ClassFields) (slot : SlotFields) {length side : ℕ}
    → 156 ≤ area_of c slot false → length ≡ length_of c slot → side ≡ side_size_of c
    → 4 + side + 156 ≤ length
unfolding area_of overhead_of
fields-fit c slot room is sides = omega (arith, room, is, sides)
