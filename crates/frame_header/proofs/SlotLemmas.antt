-- The slots of a class: what they are, and that their lengths and areas rise from one to the next.
use Rattle.std.proofs.Common.{AllPairs, append_assoc, arith, Bool, Contains, false, get_or, inl}
use Rattle.std.proofs.Common.{inr, leb, length, length-append, List, lit≤, ltb, map, refl, suc}
use Rattle.std.proofs.Common.{true, zero, ℕ, [], ◌&&◌, ◌*◌, ◌++◌, ◌+◌, ◌-◌, ◌<◌, ◌∙◌, ◌∷◌, ◌≡◌, ◌≤◌}
use Rattle.std.proofs.lemmas.Bool.{and_parts, cases_lt, leb-true, ltb-true}
use Rattle.std.proofs.lemmas.List.{get_or-append_right, get_or-map, get_or_append_left, length-map}
use Rattle.std.proofs.lemmas.List.Kept.{AllPairs-from_increasing}
use Rattle.frame_header.proofs.BelowLemmas.{all_below, all_below-pass}
use Rattle.frame_header.proofs.LengthLemmas.{area_some, length-most}
use Rattle.frame_header.specs.Fields.{ClassFields, IsClass, IsSlot, SlotFields}
use Rattle.frame_header.specs.Slots.{all_slots, areas_of, largest_slot, slot_of, slots_to}
use Rattle.frame_header.specs.Tables.{area_of, frequency_of, length_of, overhead_of, rate_of}
use Rattle.frame_header.specs.Tables.{side_bytes_of, side_size_of, window_of}
use Rattle.frame_header.specs.declared.version.Version.{Version, TheVariants.{One, Two, TwoFive}}
use mir.Val.{bool_byte}

-- ---- what the slots are
-- up to index 0 there are no slots
pub slots_to-none : [] ≡ slots_to 0
unfolding slots_to
slots_to-none = refl

-- the slots up to index 14 are all slots
pub slots_to-all : slots_to 14 ≡ all_slots
unfolding all_slots
slots_to-all = refl

-- one index more adds its two slots
pub slots_to-more : {i : ℕ} {xs ys zs : List SlotFields} → 1 ≤ i → xs ≡ slots_to (i - 1)
    → ys ≡ xs ++ slot_of i false ∷ [] → zs ≡ ys ++ slot_of i true ∷ [] → zs ≡ slots_to (i + 1 - 1)
unfolding slots_to
slots_to-more some ex ey ez = grind (arith, append_assoc)

length-slots_to : (n : ℕ) → length (slots_to n) ≡ 2 * n
unfolding slots_to
length-slots_to zero = refl
length-slots_to (suc n) = grind (arith, length-append, length-slots_to n)

-- there are 28 slots
pub length-all_slots : length all_slots ≡ 28
unfolding all_slots
length-all_slots = length-slots_to 14

one_of_two : (n : ℕ) (padding : Bool) (d : SlotFields)
    → get_or (slot_of n false ∷ slot_of n true ∷ []) (bool_byte padding) d ≡ slot_of n padding
one_of_two n padding d = grind arith

byte-most : (padding : Bool) → bool_byte padding ≤ 1
byte-most padding = grind arith

get_or-slots_to : (n : ℕ) {i : ℕ} (padding : Bool) (d : SlotFields) → i < n
    → get_or (slots_to n) (2 * i + bool_byte padding) d ≡ slot_of (suc i) padding
unfolding slots_to
get_or-slots_to zero padding d h = absurd (omega arith)
get_or-slots_to (suc n) {i} padding d h =
    let last : List SlotFields = slot_of (suc n) false ∷ slot_of (suc n) true ∷ [] in
    let many = length-slots_to n in
    let byte = byte-most padding in
    elim (cases_lt i n)
    as (λ _. get_or (slots_to n ++ last) (2 * i + bool_byte padding) d ≡ slot_of (suc i) padding) [
      | inl below ↦ grind (arith, get_or_append_left, get_or-slots_to n padding d below)
      | inr at ↦ grind (arith, get_or-append_right, one_of_two)
    ]

-- the place of a slot in the list
abbrev pub place_of : SlotFields → ℕ
place_of s = 2 * (s.rate_index - 1) + bool_byte s.padding

-- the place of a slot among them is below 28
pub place_of-below : (s : SlotFields) → IsSlot s → place_of s < 28
place_of-below s slot = omega (arith, slot.0, slot.1, byte-most s.padding)

-- the slot at the place of a slot is this slot
pub get_or-place_of : {s : SlotFields} (d : SlotFields) → IsSlot s
    → get_or all_slots (place_of s) d ≡ s
unfolding all_slots
get_or-place_of d slot = grind (arith, get_or-slots_to)

-- every slot is one of the 28
pub Contains-all_slots : (s : SlotFields) → IsSlot s → Contains all_slots s
Contains-all_slots s slot = search (arith, place_of-below, length-all_slots, get_or-place_of)

-- ---- lengths rise
abbrev lengths : ClassFields → List ℕ
lengths c = map (length_of c) all_slots

abbrev rises : List ℕ → Bool
rises ns = all_below 27 (λ k. ltb (get_or ns k 0) (get_or ns (k + 1) 0))

lengths-rise : (version : Version) (frequency channels : ℕ) → frequency < 3
    → rises (map (length_of (record {
      version = version;
      frequency_index = frequency;
      channels = channels;
    })) all_slots) ≡ true
unfolding all_slots slots_to length_of rate_of frequency_of
lengths-rise One (suc (suc (suc frequency))) channels h = absurd (omega arith)
lengths-rise Two (suc (suc (suc frequency))) channels h = absurd (omega arith)
lengths-rise TwoFive (suc (suc (suc frequency))) channels h = absurd (omega arith)
lengths-rise _ _ channels h = refl

-- the slot at a place, and its length
abbrev pub nth_slot : ℕ → SlotFields
nth_slot i = get_or all_slots i (slot_of 1 false)

are_slots : all_below 28 (λ i. leb 1 (nth_slot i).rate_index && leb (nth_slot i).rate_index 14)
    ≡ true
unfolding all_slots slots_to
are_slots = refl

-- there is a slot at each of the 28 places
pub IsSlot-nth_slot : {i : ℕ} → i < 28 → IsSlot (nth_slot i)
IsSlot-nth_slot {i} within =
    let parts = and_parts _ _ (all_below-pass 28
    (λ k. leb 1 (nth_slot k).rate_index && leb (nth_slot k).rate_index 14) are_slots within) in
    (leb-true 1 _ parts.0, leb-true _ 14 parts.1)

length_rises : (c : ClassFields) {i j : ℕ} → IsClass c → i < j → j < 28
    → length_of c (nth_slot i) < length_of c (nth_slot j)
length_rises c {i} {j} class before within =
    let long : length (lengths c) ≡ 28 = length-map all_slots (length_of c) ∙ length-all_slots in
    let step : (k : ℕ) → k + 1 < length (lengths c)
    → get_or (lengths c) k 0 < get_or (lengths c) (k + 1) 0 =
    λ k h. ltb-true _ _
    (all_below-pass 27 (λ n. ltb (get_or (lengths c) n 0) (get_or (lengths c) (n + 1) 0))
    (lengths-rise c.version c.frequency_index c.channels (omega (arith, class.0))) (omega arith)) in
    let all = AllPairs-from_increasing (lengths c) step i j 0 before (omega arith) in
    let at_i : get_or (lengths c) i 0 ≡ length_of c (nth_slot i) =
    get_or-map (length_of c) all_slots i (slot_of 1 false) 0 (omega (arith, length-all_slots)) in
    let at_j : get_or (lengths c) j 0 ≡ length_of c (nth_slot j) =
    get_or-map (length_of c) all_slots j (slot_of 1 false) 0 (omega (arith, length-all_slots)) in
    omega arith

-- a slot before another has the smaller length and the smaller area
pub length-before : (c : ClassFields) (s t : SlotFields) → IsClass c → IsSlot s → IsSlot t
    → place_of s < place_of t → length_of c s < length_of c t
length-before c s t class is it before =
    grind (
      arith,
      length_rises c {i = place_of s} {j = place_of t} class before (place_of-below t it),
      place_of-below t it,
      get_or-place_of {s = s} (slot_of 1 false) is,
      get_or-place_of {s = t} (slot_of 1 false)
          it,
    )

-- the length is the bytes before the area plus the area
pub area-is : (c : ClassFields) (s : SlotFields) (protected : Bool) → IsClass c → IsSlot s
    → (overhead_of c protected + area_of c s protected ≡ length_of c s)
    × (1 ≤ area_of c s protected)
unfolding area_of overhead_of
area-is c s protected class slot = grind (arith, area_some)

place-same : {s t : SlotFields} → IsSlot s → IsSlot t → place_of s ≡ place_of t → s ≡ t
place-same is it same = grind (arith, get_or-place_of)

largest : (c : ClassFields) (s : SlotFields) → IsClass c → IsSlot s
    → length_of c s ≤ length_of c largest_slot
largest c s class is = grind (arith, cases_lt, length-before, lit≤, place-same, place_of-below)

-- the last slot has the largest area
pub area-largest : (c : ClassFields) (s : SlotFields) (protected : Bool) → IsClass c → IsSlot s
    → area_of c s protected ≤ area_of c largest_slot protected
area-largest c s protected class is = grind (arith, largest, area-is, lit≤)

side-least : (version : Version) (channels : ℕ) → 9 ≤ side_bytes_of version channels
side-least version channels = grind arith

-- no area is larger than 1,428 bytes: the longest frame less its header and the shortest side
-- information
pub area-most : (c : ClassFields) (s : SlotFields) (protected : Bool) → IsClass c → IsSlot s
    → area_of c s protected ≤ 1428
unfolding area_of overhead_of side_size_of
area-most c s protected class slot = grind (arith, length-most, side-least)

-- a frame of the largest slot has room for the window, a header and side information, by version
-- and frequency
spans : (version : Version) {frequency : ℕ} (channels : ℕ) → frequency < 3
    → window_of version + 4 + side_bytes_of version channels ≤ length_of
    (record { version = version; frequency_index = frequency; channels = channels }) largest_slot
unfolding length_of rate_of frequency_of
spans version channels h = grind arith

-- an unprotected frame of the largest slot has room for as many bytes as main_data_begin can count
pub window-spanned : (c : ClassFields) → IsClass c
    → window_of c.version ≤ area_of c largest_slot false
unfolding area_of overhead_of side_size_of
window-spanned c class =
    omega
    (arith, spans c.version {frequency = c.frequency_index} c.channels (omega (arith, class.0)))

-- ---- the areas as a list
-- there are 28 areas
pub length-areas_of : (c : ClassFields) (protected : Bool) → length (areas_of c protected) ≡ 28
unfolding areas_of
length-areas_of c protected = length-map all_slots (λ s. area_of c s protected) ∙ length-all_slots

-- the areas ascend
pub areas-ascend : (c : ClassFields) → IsClass c → (protected : Bool)
    → AllPairs (λ m n. m < n) (areas_of c protected)
unfolding areas_of
areas-ascend c class protected i j d before within =
    let area : SlotFields → ℕ = λ s. area_of c s protected in
    let below : j < 28 = omega (arith, length-areas_of c protected) in
    let rises = length_rises c class before below in
    let at_i : get_or (map area all_slots) i d ≡ area_of c (nth_slot i) protected =
    get_or-map area all_slots i (slot_of 1 false) d (omega (arith, length-all_slots)) in
    let at_j : get_or (map area all_slots) j d ≡ area_of c (nth_slot j) protected =
    get_or-map area all_slots j (slot_of 1 false) d (omega (arith, length-all_slots)) in
    omega (
      arith,
      at_i,
      at_j,
      rises,
      (area-is c (nth_slot i) protected class (IsSlot-nth_slot (omega arith))).0,
      (area-is c (nth_slot j) protected class (IsSlot-nth_slot below)).0,
    )
