-- The areas of slots: the last is the largest, and the first that is large enough is the smallest.
use Rattle.std.proofs.Common.{AllPairs, ap, arith, Bool, Contains, false, get_or, inl, inr, length}
use Rattle.std.proofs.Common.{List, lit≤, subst, sym, ℕ, [], ◌-◌, ◌<◌, ◌∙◌, ◌∷◌, ◌≡◌, ◌≤◌}
use Rattle.std.proofs.lemmas.{Bool.cases_lt, List.{get_or-map, get_or_default, length-map}}
use Rattle.frame_header.proofs.SlotLemmas.{areas-ascend, Contains-all_slots, get_or-place_of}
use Rattle.frame_header.proofs.SlotLemmas.{length-all_slots}
use Rattle.frame_header.specs.Fields.{ClassFields, IsClass, SlotFields}
use Rattle.frame_header.specs.{Slots.{all_slots, areas_of, largest_slot}, Tables.area_of}
use Rattle.slot_plan.proofs.ReserveLemmas.{Contains-greatest_number, greatest_number-most}
use Rattle.slot_plan.specs.{Parts.slot_areas, Reserve.{greatest_number, IsLeastSlot}}

abbrev pub Ascend : List ℕ → Type 0
Ascend ns = AllPairs (λ m n. m < n) ns

greatest_number-last : (ns : List ℕ) (d : ℕ) → 0 < length ns → Ascend ns
    → get_or ns (length ns - 1) d ≡ greatest_number ns
greatest_number-last ns d some ascend =
    let last : ℕ = get_or ns (length ns - 1) 0 in
    let e : get_or ns (length ns - 1) d ≡ last = grind (arith, get_or_default) in
    let is : Contains ns last =
    (length ns - 1, omega arith, get_or_default ns (length ns - 1) last 0 (omega arith)) in
    let g = Contains-greatest_number ns is in
    let at : get_or ns g.0 0 ≡ greatest_number ns =
    get_or_default ns g.0 0 (greatest_number ns) g.1 ∙ g.2 in
    let most = greatest_number-most ns is in
    elim (cases_lt g.0 (length ns - 1)) as (λ _. get_or ns (length ns - 1) d ≡ greatest_number ns) [
      | inl before ↦ let less = ascend g.0 (length ns - 1) 0 before (omega arith) in omega arith
      | inr here ↦ grind arith
    ]

-- the area at a place of the list is the area of the slot there
pub area-at : (c : ClassFields) (p : Bool) (slots : List SlotFields) {i : ℕ} (n : ℕ)
    (d : SlotFields) → i < length slots
    → get_or (slot_areas c p slots) i n ≡ area_of c (get_or slots i d) p
area-at c p slots {i} n d within = get_or-map (λ s. area_of c s p) slots i d n within

-- there are as many areas as slots
pub areas-many : (c : ClassFields) (p : Bool) (slots : List SlotFields)
    → length (slot_areas c p slots) ≡ length slots
areas-many c p slots = length-map slots (λ s. area_of c s p)

-- the last slot has the greatest area
pub area-last : (c : ClassFields) (p : Bool) (slots : List SlotFields) {slot : SlotFields}
    (d : SlotFields) → 0 < length slots → Ascend (slot_areas c p slots) → slot
    ≡ get_or slots (length slots - 1) d → area_of c slot p ≡ greatest_number (slot_areas c p slots)
area-last c p slots d some ascend is =
    let many = areas-many c p slots in
    ap (λ s. area_of c s p) is
    ∙ sym (area-at c p slots 0 d (omega arith))
    ∙ ap (λ n. get_or (slot_areas c p slots) (n - 1) 0) (sym many)
    ∙ greatest_number-last (slot_areas c p slots) 0 (omega arith) ascend

-- an area of the list is the area of a slot
pub slot-area : (c : ClassFields) (p : Bool) (slots : List SlotFields) {n : ℕ}
    → Contains (slot_areas c p slots) n
    → (slot : SlotFields) × Contains slots slot × (area_of c slot p ≡ n)
slot-area c p [] has = absurd (omega (arith, has.1))
slot-area c p (s ∷ slots) {n} has =
    let many = areas-many c p (s ∷ slots) in
    let slot : SlotFields = get_or (s ∷ slots) has.0 s in
    let within : has.0 < length (s ∷ slots) = omega (arith, has.1) in (
      slot,
      (has.0, within, get_or_default (s ∷ slots) has.0 slot s within),
      sym (area-at c p (s ∷ slots) n s within) ∙ has.2,
    )

-- the area of a slot of the list is one of the areas
pub Contains-area : (c : ClassFields) (p : Bool) (slots : List SlotFields) {slot : SlotFields}
    → Contains slots slot → Contains (slot_areas c p slots) (area_of c slot p)
Contains-area c p slots has = grind (arith, areas-many, area-at)

-- if the areas ascend, slots with equal areas are equal
pub one-slot : (c : ClassFields) (p : Bool) (slots : List SlotFields) {s t : SlotFields}
    → Ascend (slot_areas c p slots) → Contains slots s → Contains slots t
    → area_of c s p ≡ area_of c t p → s ≡ t
one-slot c p slots {s} {t} ascend first second same =
    grind (
      arith,
      areas-many c p slots,
      area-at c p slots 0 s first.1,
      area-at c p slots 0 t second.1,
      cases_lt first.0 second.0,
      cases_lt second.0 first.0,
      get_or_default slots first.0 s t first.1,
    )

-- the first that is large enough has the smallest area
pub least-first : {wanted : ℕ} {c : ClassFields} {p : Bool} {slots : List SlotFields} {i : ℕ}
    {slot : SlotFields} → i < length slots → slot ≡ get_or slots i slot
    → Ascend (slot_areas c p slots) → ((k : ℕ) → k < i → area_of c (get_or slots k slot) p < wanted)
    → wanted ≤ area_of c slot p → IsLeastSlot wanted c p slots slot
least-first {c = c} {p = p} {slots = slots} {i = i} {slot = slot} within is ascend small enough =
    record {
      chosen = (i, within, sym is);
      enough = enough;
      least = λ other has fits.
          elim (cases_lt has.0 i) as (λ _. area_of c slot p ≤ area_of c other p) [
            | inl before ↦ grind (arith, get_or_default slots has.0 slot other has.1)
            | inr from ↦
                grind (
                  arith,
                  cases_lt i has.0,
                  areas-many c p slots,
                  area-at c p slots 0 slot within,
                  area-at c p slots 0 other has.1,
                  get_or_default slots i slot other within,
                )
          ];
    }

-- the slots before a place are too small
abbrev pub AreSmall : ℕ → ClassFields → Bool → List SlotFields → ℕ → Type 0
AreSmall wanted c p slots to =
    (k : ℕ) (d : SlotFields) → k < to → area_of c (get_or slots k d) p < wanted

-- ---- the slots of a lead-in
-- the areas of a lead-in's slots ascend
pub lead-ascend : (c : ClassFields) {slots : List SlotFields} → slots ≡ all_slots
    → Ascend (areas_of c false) → Ascend (slot_areas c false slots)
unfolding areas_of
lead-ascend c all ascend = subst (λ l. Ascend (slot_areas c false l)) (sym all) ascend

-- the greatest area of a lead-in is at least a window, if the area of the largest slot is
pub leads-span : (c : ClassFields) {window : ℕ} → window ≤ area_of c largest_slot false
    → window ≤ greatest_number (slot_areas c false all_slots)
leads-span c spanned =
    grind (
      arith,
      greatest_number-most (slot_areas c false all_slots)
          (Contains-area c false all_slots (Contains-all_slots largest_slot (
            omega arith,
            omega arith,
          ))),
      Contains-area c false all_slots (Contains-all_slots largest_slot
          (omega arith, omega arith)),
      Contains-all_slots largest_slot (omega arith, omega arith),
    )

-- a lead-in has a slot to choose
pub lead-any : {slots : List SlotFields} → slots ≡ all_slots → 0 < length slots
lead-any all = omega (arith, ap length all, length-all_slots)

-- the areas of all slots of a class ascend
pub class-ascend : {class c : ClassFields} (p : Bool) {slots : List SlotFields} → slots ≡ all_slots
    → class ≡ c → Ascend (areas_of class p) → Ascend (slot_areas c p slots)
unfolding areas_of
class-ascend p all is ascend = grind arith

-- the largest slot has the greatest of all areas
pub greatest_number-all : (c : ClassFields) (p : Bool) → IsClass c
    → area_of c largest_slot p ≡ greatest_number (slot_areas c p all_slots)
unfolding areas_of
greatest_number-all c p class =
    area-last c p all_slots largest_slot (omega (arith, length-all_slots))
    (areas-ascend c class p)
    (sym (get_or-place_of largest_slot (lit≤ tt, lit≤ tt))
    ∙ ap (λ n. get_or all_slots (n - 1) largest_slot) (sym length-all_slots))

-- ---- the one slot of a frame that keeps its own
-- the slot of a list of one is that one
pub only_one : {slot other : SlotFields} → Contains (slot ∷ []) other → slot ≡ other
only_one h = grind arith

-- the greatest of one number is that number
pub greatest_number-one : (n : ℕ) → greatest_number (n ∷ []) ≡ n
unfolding greatest_number
greatest_number-one n = omega arith

-- the only slot is the least if its area is large enough
pub least-one : {wanted : ℕ} {c : ClassFields} {p : Bool} {slot : SlotFields} → wanted
    ≤ greatest_number (slot_areas c p (slot ∷ [])) → IsLeastSlot wanted c p (slot ∷ []) slot
least-one enough = grind (arith, greatest_number-one, only_one)
