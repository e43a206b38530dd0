-- The lead-in of a part is the first entry of the least list of its frames after one lead-in.
use Rattle.std.proofs.Common.{arith, Contains, false, inl, inr, List, map, None, refl, Some, subst}
use Rattle.std.proofs.Common.{suc, zero, ℕ, [], ◌+◌, ◌-◌, ◌<◌, ◌∷◌, ◌≡◌, ◌≤◌, ◌⊎◌}
use Rattle.std.proofs.lemmas.Bool.{cases_lt}
use Rattle.frame_header.specs.{Fields.{ClassFields, HeaderFields, SlotFields}, Slots.all_slots}
use Rattle.frame_header.specs.Tables.{area_of, class_of}
use Rattle.slot_plan.proofs.AreaLemmas.{Contains-area, slot-area}
use Rattle.slot_plan.proofs.PlacedLemmas.{lead-chosen, lead-reserve_before, lead-within}
use Rattle.slot_plan.proofs.ReserveLemmas.{AreLeastAreas, can-reserve_before}
use Rattle.slot_plan.proofs.ReserveLemmas.{Contains-greatest_number, least-is, reserve_before-can}
use Rattle.slot_plan.specs.{Laws.{LeadInsComeFirst, led_open_frames}, Layouts.HasLayout}
use Rattle.slot_plan.specs.Lists.{AreChosenAreas, CanBeLaid, frames_with_areas, IsLeastList}
use Rattle.slot_plan.specs.Lists.{IsNotBehind, OpenFrame}
use Rattle.slot_plan.specs.Parts.{IsLeadIn, lead_in_item, open_frame, part_items, slot_areas}
use Rattle.slot_plan.specs.Reserve.{AreReservesInWindow, free_bytes_behind, greatest_number}
use Rattle.slot_plan.specs.{Reserve.{open_frames, reserve_before}, declared.needs.Need.Need}

-- ---- if some choice fits, there is a least one
contains-cons : {m : ℕ} (ns : List ℕ) {n : ℕ} → Contains (m ∷ ns) n → (m ≡ n) ⊎ Contains ns n
contains-cons ns h = grind arith

behind : (m : ℕ) {n : ℕ} (ns : List ℕ) → Contains ns n → Contains (m ∷ ns) n
behind m ns c = (suc c.0, omega (arith, c.1), c.2)

-- of a number and the numbers of a list, the least that is large enough
record LeastOf (wanted first : ℕ) (ns : List ℕ) : Type 0 where
  least : ℕ
  is : (first ≡ least) ⊎ Contains ns least
  enough : wanted ≤ least
  low : least ≤ first
  most : (other : ℕ) → Contains ns other → wanted ≤ other → least ≤ other

least-stays : {wanted first m : ℕ} {ns : List ℕ} → (wanted ≤ m → first ≤ m)
    → LeastOf wanted first ns → LeastOf wanted first (m ∷ ns)
least-stays {m = m} {ns = ns} not_less rest = record {
  least = rest.least;
  is = grind (arith, behind);
  enough = rest.enough;
  low = rest.low;
  most = λ other has fits. elim (contains-cons ns has) as (λ _. rest.least ≤ other) [
    | inl same ↦ grind arith
    | inr later ↦ rest.most other later fits
  ];
}

least-moves : {wanted first m : ℕ} {ns : List ℕ} → m < first → LeastOf wanted m ns
    → LeastOf wanted first (m ∷ ns)
least-moves {m = m} {ns = ns} less rest = record {
  least = rest.least;
  is = grind (arith, behind);
  enough = rest.enough;
  low = omega (arith, less, rest.low);
  most = λ other has fits. elim (contains-cons ns has) as (λ _. rest.least ≤ other) [
    | inl same ↦ omega (arith, same, rest.low)
    | inr later ↦ rest.most other later fits
  ];
}

least-from : {wanted first : ℕ} (ns : List ℕ) → wanted ≤ first → LeastOf wanted first ns
least-from {first = first} [] enough = record {
  least = first;
  is = inl refl;
  enough = enough;
  low = omega arith;
  most = grind arith;
}
least-from {wanted} {first} (m ∷ ns) enough =
    elim (cases_lt m wanted) as (λ _. LeastOf wanted first (m ∷ ns)) [
      | inl small ↦ grind (arith, least-stays, enough, least-from ns enough)
      | inr fits ↦
          grind (
            arith,
            cases_lt,
            least-moves,
            least-stays,
            enough,
            least-from ns fits,
            least-from ns enough,
          )
    ]

least-areas : (window : ℕ) {free : ℕ} (opens : List OpenFrame) (some : List ℕ)
    → AreChosenAreas opens some → reserve_before opens ≤ free → AreReservesInWindow window opens
    → (areas : List ℕ) × AreLeastAreas window free opens areas
unfolding AreChosenAreas reserve_before AreReservesInWindow AreLeastAreas
least-areas window [] some chosen enough within = ([], tt)
least-areas window (o ∷ opens) [] chosen enough within = absurd chosen
least-areas window {free} (o ∷ opens) (area ∷ some) chosen enough within =
    let all : (o.bytes + reserve_before opens) - greatest_number o.areas ≤ free = enough in
    let later : reserve_before opens ≤ window = within.0 in
    let greatest_is = Contains-greatest_number o.areas {n = area} chosen.0 in
    let pick =
    least-from {wanted = (o.bytes + reserve_before opens) - free}
    {first = greatest_number o.areas} o.areas (omega arith) in
    let is = elim pick.is as (λ _. Contains o.areas pick.least) [
      | inl same ↦ subst (Contains o.areas) same greatest_is
      | inr has ↦ has
    ] in
    let fits : (o.bytes + reserve_before opens) - free ≤ pick.least = pick.enough in
    let rest = least-areas window
    {free = free_bytes_behind window free o.bytes pick.least} opens some chosen.1 (omega arith)
    within.1 in
    (pick.least ∷ rest.0, (is, pick.enough, pick.most, rest.1))

-- ---- from the definition to the least list
chosen-tail : (o : OpenFrame) (opens : List OpenFrame) (areas : List ℕ)
    → AreChosenAreas (o ∷ opens) areas → (rest : List ℕ) × AreChosenAreas opens rest
unfolding AreChosenAreas
chosen-tail o opens areas chosen = grind arith

-- the frames after the first need at most a window either
pub within-tail : {window : ℕ} (o : OpenFrame) (opens : List OpenFrame)
    → AreReservesInWindow window (o ∷ opens)
    → (reserve_before opens ≤ window) × AreReservesInWindow window opens
unfolding AreReservesInWindow
within-tail o opens within = within

first-least : {window : ℕ} (class : ClassFields) {slot : SlotFields} {opens : List OpenFrame}
    (some : List ℕ) → Contains all_slots slot → AreChosenAreas opens some
    → reserve_before opens ≤ window → AreReservesInWindow window opens
    → reserve_before opens ≤ area_of class slot false
    → ((other : SlotFields) → Contains all_slots other → reserve_before opens
    ≤ area_of class other false → area_of class slot false ≤ area_of class other false)
    → (rest : List ℕ) × IsLeastList window
    (open_frame (lead_in_item class all_slots) ∷ opens) (area_of class slot false ∷ rest)
unfolding AreLeastAreas
first-least {window} class
    {slot} {opens} some is chosen most within enough least =
    let rest = least-areas window opens some chosen
    (omega arith) within in (
      rest.0,
      least-is (
        Contains-area class false all_slots is,
        omega arith,
        (λ other has fits.
            let of = slot-area class false all_slots has in
            let low = least of.0 of.1 (omega (arith, of.2, fits)) in
            omega (arith, of.2, low)),
        rest.1,
      ),
    )

-- ---- from the least list to the definition
with-slot : {window : ℕ} (class : ClassFields) (slot : SlotFields) {opens : List OpenFrame}
    {rest : List ℕ} → IsLeastList window (open_frame (lead_in_item class all_slots) ∷ opens)
    (area_of class slot false ∷ rest)
    → CanBeLaid window (open_frame (lead_in_item class (slot ∷ [])) ∷ opens)
unfolding AreChosenAreas CanBeLaid frames_with_areas
with-slot class slot {rest = rest} least =
    (area_of class slot false ∷ rest, ((zero, omega arith, refl), least.chosen.1), least.feasible)

-- a slot has one area
pub only-area : (class : ClassFields) (slot : SlotFields) {n : ℕ}
    → Contains (slot_areas class false (slot ∷ [])) n → area_of class slot false ≡ n
only-area class slot h = grind arith

not-before : {window : ℕ} (class : ClassFields) (slot : SlotFields) {other : SlotFields}
    {opens : List OpenFrame}
    {rest : List ℕ} (areas : List ℕ)
    → IsLeastList window (open_frame (lead_in_item class all_slots) ∷ opens)
    (area_of class slot false ∷ rest) → Contains all_slots other → area_of class other false
    < area_of class slot false
    → AreChosenAreas (open_frame (lead_in_item class (other ∷ [])) ∷ opens) areas → HasLayout window
    0 (frames_with_areas (open_frame (lead_in_item class (other ∷ [])) ∷ opens) areas) → ⊥
unfolding AreChosenAreas frames_with_areas IsNotBehind
not-before class slot [] least is less chosen feasible = absurd chosen
not-before class slot {other} (area ∷ areas) least is less chosen feasible =
    let same : area_of class other false ≡ area = only-area class other chosen.0 in
    let has : Contains (slot_areas class false all_slots) area = subst (Contains
    (slot_areas class false all_slots)) same (Contains-area class false all_slots is) in
    elim (least.least (area ∷ areas) (has, chosen.1) feasible) as (λ _. ⊥) [
      | inl before ↦ omega (arith, same)
      | inr at ↦ omega (arith, same, at.0)
    ]

-- ---- both ways
module _ (window : ℕ) (choices : HeaderFields → List SlotFields) (first : Need) (part : List Need)
    (slot : SlotFields) where
  -- the lead-in of a part is the first entry of the least list for a lead-in and its frames
  pub lead-least : IsLeadIn window choices (first ∷ part) (Some slot)
      → (rest : List ℕ) × IsLeastList
      window (led_open_frames choices first part)
      (area_of (class_of first.header) slot false ∷ rest)
  unfolding IsLeadIn part_items CanBeLaid
  lead-least alone =
      let class : ClassFields = class_of first.header in
      let opens : List OpenFrame = open_frames choices (first ∷ part) in
      let lead : OpenFrame = open_frame (lead_in_item class (slot ∷ [])) in
      let can = alone.1 in
      let none = reserve_before-can window (lead ∷ opens) can in
      let enough : reserve_before opens ≤ area_of class slot false =
      omega (arith, none.0, lead-reserve_before class slot opens) in
      let within = within-tail lead opens none.1 in
      let some = chosen-tail lead opens can.0 can.1 in
      first-least class some.0 alone.2 some.1 within.0 within.1 enough
      (λ other is fits.
      elim (cases_lt (area_of class other false) (area_of class slot false))
      as (λ _. area_of class slot false ≤ area_of class other false) [
        | inl less ↦
            absurd (alone.3 other is less
            (can-reserve_before window (open_frame (lead_in_item class (other ∷ [])) ∷ opens)
            (area_of class other false ∷ some.0) (lead-chosen class other opens some.0 some.1)
            (omega (arith, lead-reserve_before class other opens))
            (lead-within class other opens within.0 within.1)))
        | inr most ↦ most
      ])

  least-lead : (CanBeLaid window (map open_frame (part_items choices (first ∷ part) None)) → ⊥)
      → Contains all_slots slot
      → ((rest : List ℕ) × IsLeastList window (led_open_frames choices first part)
      (area_of (class_of first.header) slot false ∷ rest))
      → IsLeadIn window choices (first ∷ part) (Some slot)
  unfolding IsLeadIn part_items CanBeLaid
  least-lead never is (rest, least) = grind (arith, with-slot, is, not-before)

-- the lead-in of every part that needs one is the first entry of the least list
pub lead-first : LeadInsComeFirst
lead-first = grind (arith, lead-least, least-lead)
