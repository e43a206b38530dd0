-- Frames that are placed by what is needed after them are the plan.
use Rattle.std.proofs.Common.{ap, append_assoc, ap₂, arith, drop, false, get_or, length, List, map}
use Rattle.std.proofs.Common.{Option, refl, Some, subst, sym, true, zero, ℕ, [], ◌++◌, ◌+◌, ◌-◌}
use Rattle.std.proofs.{Common.{◌<◌, ◌∙◌, ◌∷◌, ◌≡◌, ◌≤◌}, lemmas.List.{append-nil, map-append}}
use Rattle.frame_header.specs.{Fields.{ClassFields, HeaderFields, SlotFields}, Slots.all_slots}
use Rattle.frame_header.specs.Tables.{area_of, class_of}
use Rattle.slot_plan.proofs.{AreaLemmas.{Contains-area, only_one, slot-area}, PartLemmas.next_need}
use Rattle.slot_plan.proofs.ReserveLemmas.{append-can, append-reserve_before, AreLeastAreas}
use Rattle.slot_plan.proofs.ReserveLemmas.{begins-frees, can-reserve_before, fit-least, frees_of}
use Rattle.slot_plan.proofs.ReserveLemmas.{least-is, reserve_before-can}
use Rattle.slot_plan.specs.Layouts.{HasLayout, IsDataLayout}
use Rattle.slot_plan.specs.Lists.{AreChosenAreas, CanBeLaid, frames_with_areas, OpenFrame}
use Rattle.slot_plan.specs.Parts.{all_items, AreLeadIns, AreNeedsOfClass, IsLeadIn, item_area}
use Rattle.slot_plan.specs.Parts.{lead_in_item, led_items, need_item, open_frame, part_items}
use Rattle.slot_plan.specs.Parts.{PlanItem}
use Rattle.slot_plan.specs.Plans.{AreItemSlots, IsLedPlan, IsPlan, IsPlanFor, item_areas}
use Rattle.slot_plan.specs.Reserve.{area_by_header, AreItemsPlaced, AreReserves}
use Rattle.slot_plan.specs.Reserve.{AreReservesInWindow, free_bytes_behind, greatest_number}
use Rattle.slot_plan.specs.Reserve.{IsLeastLeadIn, IsLeastSlot, IsPlacedLeadIn, open_frames}
use Rattle.slot_plan.specs.Reserve.{PlacesLedPart, PlacesMore, PlacesPart, reserve_before}
use Rattle.slot_plan.specs.declared.{needs.{Need.Need, Placed.Placed}, reserves.Reserves.Reserves}

-- ---- what is placed is the least list
least-placed : (window free : ℕ) (items : List PlanItem) (placed : List Placed)
    → AreItemsPlaced window free items placed
    → AreLeastAreas window free (map open_frame items) (item_areas items placed)
unfolding AreItemsPlaced AreLeastAreas item_areas
least-placed window free [] [] all = tt
least-placed window free [] (p ∷ placed) all = absurd all
least-placed window free (item ∷ items) [] all = absurd all
least-placed window free (item ∷ items) (p ∷ placed) all = (
  Contains-area item.class item.protected item.choices all.2.chosen,
  all.2.enough,
  (λ other has fits.
      let slot = slot-area item.class item.protected item.choices has in
      let less : item_area item p.slot ≤ item_area item slot.0 = grind arith in
      omega (arith, slot.2, less)),
  least-placed window
      (free_bytes_behind window free item.bytes (item_area item p.slot)) items placed all.3,
)

for-placed : (window free : ℕ) (items : List PlanItem) (placed : List Placed)
    → AreItemsPlaced window free items placed → AreItemSlots items placed
unfolding AreItemsPlaced AreItemSlots
for-placed window free [] [] all = tt
for-placed window free [] (p ∷ placed) all = absurd all
for-placed window free (item ∷ items) [] all = absurd all
for-placed window free (item ∷ items) (p ∷ placed) all =
    grind (
      arith,
      for-placed window (free_bytes_behind window free item.bytes (item_area item
          p.slot)) items placed all.3,
    )

begins-placed : (window free : ℕ) (items : List PlanItem) (placed : List Placed)
    → AreItemsPlaced window free items placed → map (λ p. p.begin) placed
    ≡ frees_of window free (frames_with_areas (map open_frame items) (item_areas items placed))
unfolding AreItemsPlaced item_areas frames_with_areas frees_of
begins-placed window free [] [] all = refl
begins-placed window free [] (p ∷ placed) all = absurd all
begins-placed window free (item ∷ items) [] all = absurd all
begins-placed window free (item ∷ items) (p ∷ placed) all =
    ap₂ (λ n l. n ∷ l) all.1 (begins-placed window
    (free_bytes_behind window free item.bytes (item_area item p.slot)) items placed all.3)

-- frames that are placed by what is needed after them are a plan for them
pub plan-placed : {window : ℕ} {items : List PlanItem} {placed : List Placed}
    → AreItemsPlaced window 0 items placed → IsPlanFor window items placed
plan-placed all =
    grind (arith, least-placed, for-placed, least-is, begins-placed, begins-frees, fit-least)

-- ---- the lead-in of a part

-- with one lead-in at the front, the frames need less by its area
pub lead-reserve_before : (class : ClassFields) (slot : SlotFields) (opens : List OpenFrame)
    → reserve_before (open_frame (lead_in_item class (slot ∷ [])) ∷ opens)
    ≡ reserve_before opens - area_of class slot false
unfolding reserve_before greatest_number
lead-reserve_before class slot opens = omega arith

-- with a lead-in at the front, at most a window is needed anywhere
pub lead-within : {window : ℕ} (class : ClassFields) (slot : SlotFields) (opens : List OpenFrame)
    → reserve_before opens ≤ window → AreReservesInWindow window opens
    → AreReservesInWindow window (open_frame (lead_in_item class (slot ∷ [])) ∷ opens)
unfolding AreReservesInWindow
lead-within class slot opens most within = (most, within)

-- the area of a lead-in before a choice of areas is a choice too
pub lead-chosen : (class : ClassFields) (slot : SlotFields) (opens : List OpenFrame)
    (areas : List ℕ) → AreChosenAreas opens areas → AreChosenAreas
    (open_frame (lead_in_item class (slot ∷ [])) ∷ opens) (area_of class slot false ∷ areas)
unfolding AreChosenAreas
lead-chosen class slot opens areas chosen = ((zero, omega arith, refl), chosen)

-- the lead-in that is placed before a part is the one that it has alone
lead_in-alone : (window : ℕ) (choices : HeaderFields → List SlotFields) (part : List Need)
    (lead_in : Option SlotFields) → IsPlacedLeadIn window all_slots choices part lead_in
    → IsLeadIn window choices part lead_in
unfolding IsPlacedLeadIn IsLeadIn part_items
lead_in-alone window choices part lead_in can =
    grind (arith, reserve_before-can, lead-reserve_before)

-- with its lead-in a part has a layout
pub lead_in-can : (window : ℕ) (choices : HeaderFields → List SlotFields) (part : List Need)
    (lead_in : Option SlotFields) → IsLeadIn window choices part lead_in
    → CanBeLaid window (map open_frame (part_items choices part lead_in))
unfolding IsLeadIn
lead_in-can window choices part lead_in is = grind arith

-- an empty list of frames has a layout
pub nothing-can : (window : ℕ) → CanBeLaid window []
unfolding CanBeLaid AreChosenAreas frames_with_areas HasLayout IsDataLayout
nothing-can window = ([], tt, ([], tt))

-- parts with their lead-ins have a layout all together
pub whole-can : (window : ℕ) (choices : HeaderFields → List SlotFields) (parts : List (List Need))
    (lead_ins : List (Option SlotFields)) → AreLeadIns window choices parts lead_ins
    → CanBeLaid window (map open_frame (all_items choices parts lead_ins))
unfolding AreLeadIns all_items
whole-can window choices [] lead_ins all = nothing-can window
whole-can window choices (part ∷ parts) [] all = absurd all
whole-can window choices (part ∷ parts) (lead_in ∷ lead_ins) all =
    grind (
      arith,
      map-append,
      append-can,
      lead_in-can,
      whole-can window choices parts lead_ins all.1,
    )

-- ---- placing more frames
-- before the first frame nothing is placed
pub places-begun : (window free : ℕ) (items : List PlanItem) (placed : List Placed)
    → PlacesMore window free free items items placed placed
places-begun window free items placed = grind (arith, append-nil)

placed-cons : (window : ℕ) {free : ℕ} (item : PlanItem) (items : List PlanItem) {p : Placed}
    (placed : List Placed) → p.lead_in ≡ item.lead_in → p.begin ≡ free → IsLeastSlot
    ((item.bytes + reserve_before (map open_frame items)) - free)
    item.class item.protected item.choices p.slot → AreItemsPlaced window
    (free_bytes_behind window free item.bytes (item_area item p.slot)) items placed
    → AreItemsPlaced window free (item ∷ items) (p ∷ placed)
unfolding AreItemsPlaced
placed-cons window item items placed is begin least behind = (is, begin, least, behind)

-- a frame in the least slot with what is needed after it is one more frame placed
pub places-more : {window free now : ℕ} {items : List PlanItem} {item : PlanItem}
    {left : List PlanItem}
    {old new : List Placed} {p : Placed} → p.lead_in ≡ item.lead_in → p.begin ≡ now → IsLeastSlot
    ((item.bytes + reserve_before (map open_frame left)) - now)
    item.class item.protected item.choices p.slot
    → PlacesMore window free now items (item ∷ left) old new → PlacesMore window free
    (free_bytes_behind window now item.bytes (item_area item p.slot)) items left old (new ++ p ∷ [])
places-more is begin least on =
    grind (arith, append_assoc, map-append, append-reserve_before, placed-cons)

-- frames placed up to one, and then the others from it on, are all placed
pub places-then : {window free now after : ℕ} {items left : List PlanItem}
    {old mid new : List Placed} → PlacesMore window free now items left old mid
    → PlacesMore window now after left [] mid new → PlacesMore window free after items [] old new
places-then first second = grind (arith, append_assoc)

-- ---- part by part: whatever places the parts from here on correctly places all correctly
unfoldable pub PartsPlaced : ℕ → (HeaderFields → List SlotFields) → List (List Need)
    → List (List Need) → ℕ → List Placed → Type 0
PartsPlaced window choices all left free before =
    (lead_ins : List (Option SlotFields)) (placed : List Placed)
    → AreLeadIns window choices left lead_ins
    → AreItemsPlaced window free (all_items choices left lead_ins) placed
    → (whole : List (Option SlotFields)) × AreLeadIns window choices all whole
    × AreItemsPlaced window 0 (all_items choices all whole) (before ++ placed)

-- before the first part nothing is placed
pub parts-begun : (window : ℕ) (choices : HeaderFields → List SlotFields) (parts : List (List Need))
    → PartsPlaced window choices parts parts 0 []
unfolding PartsPlaced
parts-begun window choices parts lead_ins placed alone all = (lead_ins, alone, all)

leads-cons : (window : ℕ) (choices : HeaderFields → List SlotFields) (part : List Need)
    (parts : List (List Need)) (lead_in : Option SlotFields) (lead_ins : List (Option SlotFields))
    → IsLeadIn window choices part lead_in → AreLeadIns window choices parts lead_ins
    → AreLeadIns window choices (part ∷ parts) (lead_in ∷ lead_ins)
unfolding AreLeadIns
leads-cons window choices part parts lead_in lead_ins here behind = (here, behind)

whole-cons : (choices : HeaderFields → List SlotFields) (part : List Need)
    (parts : List (List Need)) (lead_in : Option SlotFields) (lead_ins : List (Option SlotFields))
    → part_items choices part lead_in ++ all_items choices parts lead_ins
    ≡ all_items choices (part ∷ parts) (lead_in ∷ lead_ins)
unfolding all_items
whole-cons choices part parts lead_in lead_ins = refl

-- a part that is placed after those before it is one more part placed
pub parts-more : {window : ℕ} {choices : HeaderFields → List SlotFields} (all : List (List Need))
    {part : List Need} (left : List (List Need)) {free after : ℕ} {before behind : List Placed}
    → PlacesPart window all_slots choices part free after before behind
    → PartsPlaced window choices all (part ∷ left) free before
    → PartsPlaced window choices all left after behind
unfolding PartsPlaced
parts-more {window} {choices} all {part} left
    {free} {before = before} {behind = behind} part_placed on lead_ins placed alone rest =
    let lead_in : Option SlotFields = part_placed.lead_in in
    let more : List Placed = part_placed.places.more in
    let none = (reserve_before-can window (map open_frame (all_items choices left lead_ins))
    (whole-can window choices left lead_ins alone)).0 in
    let here : AreItemsPlaced window free (all_items choices (part ∷ left) (lead_in ∷ lead_ins))
    (more ++ placed) =
    subst (λ l. AreItemsPlaced window free l (more ++ placed)) (whole-cons choices part left lead_in
    lead_ins) (part_placed.places.goes (all_items choices left lead_ins) placed none rest) in
    let end = on (lead_in ∷ lead_ins) (more ++ placed) (leads-cons window choices part left lead_in
    lead_ins (lead_in-alone window choices part lead_in part_placed.least) alone) here in
    let same : before ++ (more ++ placed) ≡ behind ++ placed = sym (append_assoc before more placed)
    ∙ ap (λ l. l ++ placed) (sym part_placed.places.appended) in
    (end.0, end.1, subst (λ l. AreItemsPlaced window 0 (all_items choices all end.0) l) same end.2)

no-leads : (window : ℕ) (choices : HeaderFields → List SlotFields) → AreLeadIns window choices [] []
unfolding AreLeadIns
no-leads window choices = tt

no-placed : (window free : ℕ) (choices : HeaderFields → List SlotFields)
    → AreItemsPlaced window free (all_items choices [] []) []
unfolding AreItemsPlaced all_items
no-placed window free choices = tt

-- all parts, placed in order, are the plan
pub parts-all : {window : ℕ} {choices : HeaderFields → List SlotFields} {all : List (List Need)}
    (free : ℕ) {placed : List Placed} → PartsPlaced window choices all [] free placed
    → IsPlan window choices all placed
unfolding PartsPlaced
parts-all {window} {choices} free {placed} on =
    grind (
      arith,
      no-leads window choices,
      no-placed window free choices,
      plan-placed,
      append-nil placed,
    )

-- ---- the next frame of a part
-- the frame at i, in the least slot with what is needed after it, is one more frame placed
pub places-next : {window free now next : ℕ} (choices : HeaderFields → List SlotFields)
    (part : List Need) {i : ℕ} {need : Need} {p : Placed} {wanted : ℕ} {old new : List Placed}
    → i < length part → need ≡ get_or part i need
    → wanted ≡ reserve_before (open_frames choices (drop (i + 1) part)) → p.lead_in ≡ false
    → p.begin ≡ now → IsLeastSlot ((need.bytes + wanted) - now) (class_of need.header)
    need.header.protected (choices need.header) p.slot → next ≡ free_bytes_behind window now
    need.bytes (area_of (class_of need.header) p.slot need.header.protected)
    → PlacesMore window free now (map (need_item choices) part)
    (map (need_item choices) (drop i part)) old new → PlacesMore window free next
    (map (need_item choices) part) (map (need_item choices) (drop (i + 1) part)) old (new ++ p ∷ [])
places-next {window} {free} {now} choices part
    {i} {need} {p} {old = old} {new = new} within is wants frame begin least behind on =
    let items : List PlanItem = map (need_item choices) part in
    let left : List PlanItem = map (need_item choices) (drop (i + 1) part) in
    let here : PlacesMore window free now items (need_item choices need ∷ left) old new =
    subst (λ l. PlacesMore window free now items (map (need_item choices) l) old new)
    (next_need part within is) on in
    let enough = subst (λ n. IsLeastSlot ((need.bytes + n) - now)
    (class_of need.header) need.header.protected (choices need.header) p.slot) wants least in
    subst (λ n. PlacesMore window free n items left old (new ++ p ∷ [])) (sym behind)
    (places-more frame begin enough here)

-- ---- a part with its lead-in
module _ (window : ℕ) (leads : List SlotFields) (choices : HeaderFields → List SlotFields)
    (area : HeaderFields → ℕ) where
  -- a part that needs nothing before it is placed without a lead-in
  pub part-without : {part : List Need} {reserves : Reserves} {free after : ℕ}
      {old new : List Placed} → AreReserves window choices area part reserves → reserves.before ≡ 0
      → PlacesMore window free after (map (need_item choices) part) [] old new
      → PlacesPart window leads choices part free after old new
  unfolding IsPlacedLeadIn part_items
  part-without are none places = grind (arith, can-reserve_before)

  led-with : {first : Need} {part : List Need} {free mid after : ℕ} {p : Placed}
      {old new : List Placed} → p.lead_in ≡ true → p.begin ≡ free → IsLeastSlot
      (reserve_before (open_frames choices (first ∷ part))) (class_of first.header) false leads
      p.slot → mid ≡ free_bytes_behind window free 0 (area_of (class_of first.header) p.slot false)
      → PlacesMore window mid after (map (need_item choices) (first ∷ part)) [] (old ++ p ∷ []) new
      → PlacesLedPart window leads choices (first ∷ part) free after old new
  unfolding IsLeastLeadIn part_items
  led-with {first} {part} {free} {p = p} {old = old} frame begin least behind
      places =
      let class : ClassFields = class_of first.header in
      let items : List PlanItem = map (need_item choices) (first ∷ part) in
      let opens : List OpenFrame = map open_frame items in
      let lead : PlanItem = lead_in_item class (p.slot ∷ []) in
      let enough = least.enough in
      let least_one : IsLeastSlot ((0 + reserve_before opens) - free) class false
      (p.slot ∷ []) p.slot = grind (arith, only_one) in
      let begun = places-more frame begin
      least_one (places-begun window free (lead ∷ items) old) in
      let on = subst (λ n. PlacesMore window free n (lead ∷ items) items old (old ++ p ∷ []))
      (sym behind) begun in
      record {
        slot = p.slot;
        least = least;
        places = grind (arith, places-then);
      }

  -- a least lead-in and then the frames of a part place it as a led part, if the class is known
  pub led-of : {class : ClassFields} (part : List Need) {free mid after : ℕ} {p : Placed}
      {old new : List Placed} → 0 < length part → AreNeedsOfClass class part → p.lead_in ≡ true
      → p.begin ≡ free
      → IsLeastSlot (reserve_before (open_frames choices part)) class false leads p.slot
      → mid ≡ free_bytes_behind window free 0 (area_of class p.slot false)
      → PlacesMore window mid after (map (need_item choices) part) [] (old ++ p ∷ []) new
      → PlacesLedPart window leads choices part free after old new
  unfolding AreNeedsOfClass
  led-of [] any same frame begin least behind places = grind arith
  led-of (first ∷ part)
      {free} {mid} {after} {p} {old} {new} any same frame begin least behind places =
      led-with frame begin
      (subst
      (λ k. IsLeastSlot (reserve_before (open_frames choices (first ∷ part))) k false leads p.slot)
      (sym same.0) least)
      (behind ∙ ap (λ k. free_bytes_behind window free 0 (area_of k p.slot false)) (sym same.0))
      places

  lead-needing : (part : List Need) {reserves : Reserves} (slot : SlotFields)
      → AreReserves window choices area part reserves → 0 < reserves.before
      → IsLeastLeadIn leads choices part slot → IsPlacedLeadIn window leads choices part (Some slot)
  unfolding IsLeastLeadIn IsPlacedLeadIn part_items
  lead-needing [] slot are some least = absurd least
  lead-needing (first ∷ part) {reserves} slot are some least =
      let class : ClassFields = class_of first.header in
      let opens : List OpenFrame = open_frames choices (first ∷ part) in
      let value : reserve_before opens ≡ reserves.before = sym are.before in
      let enough = least.enough in (
        omega (arith, value, some),
        can-reserve_before window (open_frame (lead_in_item class (slot ∷ [])) ∷ opens)
            (area_of class slot false ∷ map (area_by_header area) (first ∷ part))
            (lead-chosen class slot opens (map (area_by_header area) (first ∷ part)) are.chosen)
            (omega (arith, lead-reserve_before class slot opens, enough))
            (lead-within class slot opens (omega (arith, value, are.most)) are.within),
        least,
      )

  -- a part whose frames need free bytes is placed with
  -- its own lead-in if it is placed as a led part
  pub part-led : {part : List Need} {reserves : Reserves} {free after : ℕ} {old new : List Placed}
      → AreReserves window choices area part reserves → 0 < reserves.before
      → PlacesLedPart window leads choices part free after old new
      → PlacesPart window leads choices part free after old new
  part-led are some led = search (arith, lead-needing)

-- ---- a part after a lead-in of any slot
any-slot : (window : ℕ) {class : ClassFields} {slot : SlotFields} (items : List PlanItem)
    (placed : List Placed)
    → IsLeastSlot (reserve_before (map open_frame items)) class false all_slots slot
    → AreItemsPlaced window 0 (lead_in_item class (slot ∷ []) ∷ items) placed
    → AreItemsPlaced window 0 (lead_in_item class all_slots ∷ items) placed
unfolding AreItemsPlaced
any-slot window items placed least all = grind arith

led-items : (window : ℕ) (choices : HeaderFields → List SlotFields) (part : List Need)
    (slot : SlotFields) (placed : List Placed) → IsLeastLeadIn all_slots choices part slot
    → AreItemsPlaced window 0 (part_items choices part (Some slot)) placed
    → AreItemsPlaced window 0 (led_items choices part) placed
unfolding IsLeastLeadIn part_items led_items
led-items window choices part slot placed least all = grind (arith, any-slot)

reserve_before-nothing : reserve_before (map open_frame []) ≡ 0
unfolding reserve_before
reserve_before-nothing = refl

nothing_placed : (window free : ℕ) → AreItemsPlaced window free [] []
unfolding AreItemsPlaced
nothing_placed window free = tt

-- a part that is placed after the least lead-in of any slot is its led plan
pub led-placed : {window after : ℕ} {choices : HeaderFields → List SlotFields} {part : List Need}
    {placed : List Placed} → PlacesLedPart window all_slots choices part 0 after [] placed
    → IsLedPlan window choices part placed
led-placed {window} {after} {choices} {part} {placed} led =
    let goes = led.places.goes [] [] reserve_before-nothing (nothing_placed window after) in
    let items : List PlanItem = part_items choices part (Some led.slot) in
    let all : AreItemsPlaced window 0 items placed = grind (arith, append-nil) in
    plan-placed
    (led-items window choices part led.slot placed led.least all)
