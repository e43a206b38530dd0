-- The lead-in of frames in their own slots, and the slot in which such frames join others.
use Rattle.std.proofs.Common.{AllPairs, arith, Bool, Contains, drop, false, get_or, length, List}
use Rattle.std.proofs.Common.{max, None, Some, subst, sym, take, ℕ, [], ◌*◌, ◌+◌, ◌-◌, ◌<◌, ◌∙◌}
use Rattle.std.proofs.{Common.{◌∷◌, ◌≡◌, ◌≤◌}, lemmas.List.{length-drop, take_all}}
use Rattle.frame_header.proofs.SlotLemmas.{window-spanned}
use Rattle.frame_header.specs.Fields.{ClassFields, HeaderFields, IsClass, SlotFields}
use Rattle.frame_header.specs.{Slots.{all_slots, areas_of}, Tables.{class_of, window_of}}
use Rattle.slot_plan.proofs.AreaLemmas.{class-ascend, Contains-area, lead-any, leads-span}
use Rattle.slot_plan.proofs.FreeByteLemmas.{cons-fits, fits-cons, fits-drop, more-behind}
use Rattle.slot_plan.proofs.PartLemmas.{class-drop, next_need}
use Rattle.slot_plan.proofs.ReserveLemmas.{greatest_number-most, max-is}
use Rattle.slot_plan.specs.FreeBytes.{CanJoinBehind, FitBehindWindow, FitsBehind, IsJoinSlot}
use Rattle.slot_plan.specs.FreeBytes.{IsLeadInHeader, IsLeadInSlot, IsLeastWanted, JoinsInSlot}
use Rattle.slot_plan.specs.FreeBytes.{need_in_slot}
use Rattle.slot_plan.specs.Parts.{AreNeedsOfClass, AreRisingSlots, own_slot_area, slot_areas}
use Rattle.slot_plan.specs.{Reserve.{greatest_number, IsLeastSlot}, declared.needs.Need.Need}

-- ---- the lead-in

-- The slot of the lead-in is the least whose area has what the frames want.
pub lead-slot : {window wanted : ℕ} {class : ClassFields} {needs : List Need} {slot : SlotFields}
    → IsLeastWanted window needs wanted → IsLeastSlot wanted class false all_slots slot
    → IsLeadInSlot window class needs slot
lead-slot is least = grind (arith, more-behind)

-- the first header, unprotected and in that slot, is the header of the lead-in
pub lead-header : {window : ℕ} {first : Need} {needs : List Need} {slot : SlotFields}
    {header : HeaderFields} → IsLeadInSlot window (class_of first.header) (first ∷ needs) slot
    → header ≡ record first.header { protected = false; slot = slot }
    → IsLeadInHeader window (first ∷ needs) header
unfolding IsLeadInHeader
lead-header is gives = grind arith

-- ---- frames that join others

module _ {window free : ℕ} (wanted : ℕ) (first : Need) (needs : List Need) (slot : SlotFields)
    (within : free ≤ window) where
  -- with its first frame in a slot, a list fits if the first
  -- frame's main data and what the others want have room
  pub slot-fits : wanted ≤ window → IsLeastWanted window needs wanted → first.bytes + wanted
      ≤ free + own_slot_area (need_in_slot slot first)
      → FitsBehind window free (need_in_slot slot first ∷ needs)
  slot-fits most is room = grind (arith, cons-fits, within, more-behind, most)

  -- if a list fits with its first frame in a slot, that
  -- frame's main data and what the others want have room
  pub fits-slot : IsLeastWanted window needs wanted
      → FitsBehind window free (need_in_slot slot first ∷ needs)
      → first.bytes + wanted ≤ free + own_slot_area (need_in_slot slot first)
  fits-slot is fits = grind (arith, fits-cons (need_in_slot slot first) needs within fits)

module _ {window free wanted area : ℕ} (first : Need) {needs : List Need} (within : free ≤ window)
    (most : wanted ≤ window) (is : IsLeastWanted window needs wanted)
    (gives : area ≡ max ((first.bytes + wanted) - free) (own_slot_area first)) where
  -- a slot in which the frames join has at least this area
  pub joins-area : {slot : SlotFields} → JoinsInSlot window free first needs slot
      → area ≤ own_slot_area (need_in_slot slot first)
  joins-area joins = grind (arith, fits-slot, within, max-is)

  -- frames join in a slot with at least this area
  pub area-joins : {slot : SlotFields} → Contains all_slots slot
      → area ≤ own_slot_area (need_in_slot slot first) → JoinsInSlot window free first needs slot
  area-joins has enough = grind (arith, max-is, slot-fits)

  -- The frames join in the least slot with such an area, if there is one.
  pub least-joins : {slot : SlotFields}
      → IsLeastSlot area (class_of first.header) first.header.protected all_slots slot
      → IsJoinSlot window free (first ∷ needs) (Some slot)
  unfolding IsJoinSlot
  least-joins least = grind (arith, area-joins, joins-area)

  -- frames join in no slot if none has so large an area
  pub none-joins : greatest_number
      (slot_areas (class_of first.header) first.header.protected all_slots)
      < area → IsJoinSlot window free (first ∷ needs) None
  unfolding IsJoinSlot
  none-joins less slot joins =
      let class : ClassFields = class_of first.header in
      let most_area = greatest_number-most (slot_areas class first.header.protected all_slots)
      (Contains-area class first.header.protected all_slots joins.chosen) in
      omega (arith, less, most_area, joins-area joins)

-- ---- what the calls require

-- the areas of all slots ascend
pub rising-all : {class : ClassFields} {protected : Bool} {slots : List SlotFields}
    → slots ≡ all_slots → AllPairs (λ m n. m < n) (areas_of class protected)
    → AreRisingSlots class protected slots
rising-all all ascend = search (arith, lead-any, class-ascend)

-- a lead-in of some slot has what frames that fit after a whole window want
pub lead-enough : (class : ClassFields) {wanted : ℕ} {needs : List Need} {slots : List SlotFields}
    → IsClass class → slots ≡ all_slots
    → FitsBehind (window_of class.version) (window_of class.version) needs
    → IsLeastWanted (window_of class.version) needs wanted
    → wanted ≤ greatest_number (slot_areas class false slots)
lead-enough class known all fits is = grind (arith, leads-span, window-spanned)

-- the least slot is the same for equal classes and lists
pub least-in : {m n : ℕ} {c d : ClassFields} {p q : Bool} {xs ys : List SlotFields}
    {slot : SlotFields} → m ≡ n → c ≡ d → p ≡ q → xs ≡ ys → IsLeastSlot m c p xs slot
    → IsLeastSlot n d q ys slot
least-in same_wanted same_class same_protected same_slots least = grind arith

-- the greatest area is the same for equal classes and lists
pub greatest_number-in : {c d : ClassFields} {p q : Bool} {xs ys : List SlotFields} → c ≡ d → p ≡ q
    → xs ≡ ys → greatest_number (slot_areas c p xs) ≡ greatest_number (slot_areas d q ys)
greatest_number-in same_class same_protected same_slots = grind arith

-- all frames but the first, as a slice
abbrev pub others_of : List Need → List Need
others_of needs = take (length needs - 1) (drop 1 needs)

-- the other frames are those without the first
pub others-are : (needs : List Need) → others_of needs ≡ drop 1 needs
others-are needs = take_all (length needs - 1) (drop 1 needs) (omega (arith, length-drop 1 needs))

-- the other frames of a list that can join fit after a whole window
pub others-fit : {free : ℕ} {needs : List Need} → CanJoinBehind free needs
    → FitBehindWindow (others_of needs)
others-fit {needs = needs} can = record {
  class = can.class;
  same = grind (arith, others-are needs, class-drop can.class needs 1 can.same);
  fits = subst (FitsBehind (window_of can.class.version) (window_of can.class.version))
      (sym (others-are needs))
      (fits-drop (window_of can.class.version) (window_of can.class.version) 1 needs can.fits);
}

-- the first of some frames, and what the others want
pub record FirstOf (window free wanted : ℕ) (first : Need) (needs : List Need) : Type 0 where
  pub whole : needs ≡ first ∷ drop 1 needs
  pub within : free ≤ window
  pub fits : FitsBehind window window (first ∷ drop 1 needs)
  pub wants : IsLeastWanted window (drop 1 needs) wanted
  pub most : wanted ≤ window

one-window : {c d : ClassFields} (needs : List Need) → 0 < length needs → AreNeedsOfClass c needs
    → AreNeedsOfClass d needs → c ≡ d
unfolding AreNeedsOfClass
one-window [] some first second = absurd (omega (arith, some))
one-window (need ∷ needs) some first second = sym first.0 ∙ second.0

-- the first frame of a list that can join, and what the others want
pub first-of : (class : ClassFields) {free wanted : ℕ} {first : Need} {needs : List Need}
    → CanJoinBehind free needs → AreNeedsOfClass class needs → first ≡ get_or needs 0 first
    → ((k : ClassFields) → AreNeedsOfClass k (others_of needs)
    → IsLeastWanted (window_of k.version) (others_of needs) wanted)
    → FirstOf (window_of class.version) free wanted first needs
first-of class {free} {wanted} {first} {needs} can same is gives =
    let one = one-window needs can.some can.same same in
    let wants =
    subst (λ l. IsLeastWanted (window_of class.version) l wanted) (others-are needs) (gives
    class (subst (AreNeedsOfClass class) (sym (others-are needs)) (class-drop class needs 1 same)))
    in
    let fits = subst (λ (k : ClassFields). FitsBehind (window_of k.version)
    (window_of k.version) needs) one can.fits in
    let whole : needs ≡ first ∷ drop 1 needs = next_need needs can.some is in
    record {
      whole = whole;
      within = subst (λ (k : ClassFields). free ≤ window_of k.version) one can.within;
      fits = subst (FitsBehind (window_of class.version) (window_of class.version)) whole fits;
      wants = wants;
      most = wants.least (window_of class.version)
          (fits-drop (window_of class.version) (window_of class.version) 1 needs fits);
    }

module _ (window free wanted area : ℕ) (first : Need) (needs : List Need) where
  -- the first frame and what the others want have room in its own area and two windows
  pub first-room : FirstOf window free wanted first needs → area ≡ own_slot_area first
      → first.bytes + wanted ≤ 2 * window + area
  first-room of own = grind (arith, fits-cons)

  -- the least slot with what is missing, but not less than
  -- the first frame's own, is the slot in which frames join
  pub first-joins : {slot : SlotFields} → FirstOf window free wanted first needs
      → area ≡ max ((first.bytes + wanted) - free) (own_slot_area first)
      → IsLeastSlot area (class_of first.header) first.header.protected all_slots slot
      → IsJoinSlot window free needs (Some slot)
  first-joins {slot} of gives least =
      grind (
        arith,
        least-joins first of.within of.most
            of.wants gives least,
      )

  -- frames join in no slot if none has what is missing
  pub first-none : FirstOf window free wanted first needs
      → area ≡ max ((first.bytes + wanted) - free) (own_slot_area first)
      → greatest_number (slot_areas (class_of first.header) first.header.protected all_slots) < area
      → IsJoinSlot window free needs None
  first-none of gives less =
      grind (
        arith,
        none-joins first of.within of.most
            of.wants gives less,
      )

-- ---- the lead-in of frames

-- the least slot with what frames want is the slot of their lead-in
pub lead-of : (class : ClassFields) {wanted : ℕ} {first : Need} {needs : List Need}
    {slot : SlotFields} {header : HeaderFields} → FitBehindWindow needs → 0 < length needs
    → AreNeedsOfClass class needs → first ≡ get_or needs 0 first → ((k : ClassFields)
    → AreNeedsOfClass k needs → IsLeastWanted (window_of k.version) needs wanted)
    → IsLeastSlot wanted (class_of first.header) false all_slots slot
    → header ≡ record first.header { protected = false; slot = slot }
    → IsLeadInHeader (window_of class.version) needs header
lead-of class {wanted} {first} {needs} {slot} {header} fit
    some same is gives least made =
    let whole : needs ≡ first ∷ drop 1 needs = next_need needs some is in
    let wants = gives class same in
    subst (λ l. IsLeadInHeader (window_of class.version) l header) (sym whole)
    (lead-header
    (lead-slot
    (subst (λ l. IsLeastWanted (window_of class.version) l wanted) whole wants) least) made)
