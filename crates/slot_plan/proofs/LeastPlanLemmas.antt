-- The first list of slots for which there is a layout is
-- the least, so the plan is the value of the function.
use Rattle.std.proofs.Common.{ap, ap₂, arith, Bool, cond, Contains, false, inl, leb, List, lit≤}
use Rattle.std.proofs.Common.{map, max, None, Option, refl, Some, subst, suc, sym, true, zero, ℕ}
use Rattle.std.proofs.Common.{[], ◌&&◌, ◌+◌, ◌-◌, ◌<◌, ◌∙◌, ◌∷◌, ◌≡◌, ◌≤◌}
use Rattle.std.proofs.lemmas.{Bool.{and_parts, le-leb, leb-true}, List.Folds.find-append}
use Rattle.std.specs.Option.{option_or}
use Rattle.std.specs.Prelude.{All, find, flat_map, is_some, option_and_then, option_map, slice_get}
use Rattle.std.specs.Prelude.{unwrap_or, ◌↔◌}
use Rattle.frame_header.proofs.SlotLemmas.{Contains-all_slots, window-spanned}
use Rattle.frame_header.specs.Fields.{ClassFields, HeaderFields, SlotFields}
use Rattle.frame_header.specs.Slots.{all_slots, largest_slot}
use Rattle.frame_header.specs.Tables.{area_of, class_of, window_of}
use Rattle.slot_plan.proofs.AreaLemmas.{Ascend, Contains-area, leads-span, slot-area}
use Rattle.slot_plan.proofs.LeadInLemmas.{lead-first}
use Rattle.slot_plan.proofs.OnePlanLemmas.{all_in_order, AllInOrder, AreInOrder, AreOrdered}
use Rattle.slot_plan.proofs.OnePlanLemmas.{one_lead, one_plan_for, ordered_frames, ordered_whole}
use Rattle.slot_plan.proofs.OnePlanLemmas.{slots_ascend}
use Rattle.slot_plan.proofs.PartLemmas.{chosen-cons, nothing_chosen, reserve_before-from}
use Rattle.slot_plan.proofs.PlacedLemmas.{nothing-can, whole-can}
use Rattle.slot_plan.proofs.ReserveLemmas.{AllFit, can-reserve_before, fit-layout, layout-fit}
use Rattle.slot_plan.proofs.ReserveLemmas.{max-is, reserve_before-can, starts_of}
use Rattle.slot_plan.specs.Laws.{LedPlanIsLeast, PartsChooseInOrder}
use Rattle.slot_plan.specs.Layouts.{begins_of, FrameLengths, has_layout, HasLayout}
use Rattle.slot_plan.specs.LeastPlan.{all_lists, earliest_placement, first_list, frames_in_slots}
use Rattle.slot_plan.specs.LeastPlan.{lead_in_alone, least_placement, least_plan, led_plan}
use Rattle.slot_plan.specs.LeastPlan.{placed_items}
use Rattle.slot_plan.specs.Lists.{AreChosenAreas, CanBeLaid, frames_with_areas, IsLeastList}
use Rattle.slot_plan.specs.Lists.{IsNotBehind}
use Rattle.slot_plan.specs.Parts.{all_items, AreLeadIns, AreNeedsOfClass, ArePartsFeasible}
use Rattle.slot_plan.specs.Parts.{IsLeadIn, item_area, lead_in_item, led_items, need_item}
use Rattle.slot_plan.specs.Parts.{open_frame, own_frame, part_items, PlanItem, slot_areas}
use Rattle.slot_plan.specs.Plans.{AreItemSlots, IsLedPlan, IsPlan, IsPlanFor, item_areas}
use Rattle.slot_plan.specs.Reserve.{area_by_header, AreReservesInWindow, greatest_number}
use Rattle.slot_plan.specs.Reserve.{open_frames, own_area_of, reserve_before}
use Rattle.slot_plan.specs.declared.needs.{Need.Need, Placed.Placed}

-- ---- the test finds whether there is a layout

-- frames that fit in the free bytes pass the test of a layout
pub fit-has : (window end : ℕ) {before free : ℕ} (frames : List FrameLengths) → end ≤ before
    → free ≡ (before - end) - ((before - end) - window) → AllFit window free frames
    → has_layout window end before frames ≡ true
unfolding AllFit has_layout
fit-has window end [] ends is fit = refl
fit-has window end {before} {free} (frame ∷ frames) ends is fit =
    let start : ℕ = max end (before - window) in
    let at : start ≡ end + ((before - window) - end) = max-is end (before - window) in
    let room : frame.bytes ≤ free + frame.area = fit.0 in
    let here : start + frame.bytes ≤ before + frame.area = omega arith in
    ap₂ (λ (a b : Bool). a && b) (le-leb (start + frame.bytes) (before + frame.area) here)
    (fit-has window (start + frame.bytes) frames here (omega arith) fit.1)

-- frames that pass the test fit
pub has-fit : (window end : ℕ) {before free : ℕ} (frames : List FrameLengths) → end ≤ before
    → free ≡ (before - end) - ((before - end) - window) → has_layout window end before frames ≡ true
    → AllFit window free frames
unfolding AllFit has_layout
has-fit window end [] ends is has = tt
has-fit window end {before} {free} (frame ∷ frames) ends is has =
    let start : ℕ = max end (before - window) in
    let at : start ≡ end + ((before - window) - end) = max-is end (before - window) in
    let both = and_parts (leb (start + frame.bytes) (before + frame.area))
    (has_layout window (start + frame.bytes) (before + frame.area) frames) has in
    let here : start + frame.bytes ≤ before + frame.area = grind (arith, leb-true) in (
      omega arith,
      has-fit window (start + frame.bytes) frames here (omega arith) both.1,
    )

has-feasible : (window : ℕ) (frames : List FrameLengths) → has_layout window 0 0 frames ≡ true
    → HasLayout window 0 frames
unfolding HasLayout
has-feasible window frames has =
    grind (
      arith,
      starts_of window 0 0 frames,
      layout-fit window 0 {before = 0} {free = 0} frames (omega arith) (omega
          arith) (has-fit window 0 {before = 0} {free = 0} frames (omega arith) (omega arith) has),
      has-fit window 0 {before = 0} {free = 0}
          frames (omega arith) (omega arith) has,
    )

feasible-has : (window : ℕ) (frames : List FrameLengths) → HasLayout window 0 frames
    → has_layout window 0 0 frames ≡ true
unfolding HasLayout
feasible-has window frames feasible = grind (arith, fit-has, fit-layout)

-- ---- the first list that passes a test

-- a slot for each item, one of its choices
unfoldable pub AreOf : List PlanItem → List SlotFields → Type 0
AreOf [] [] = Unit {0}
AreOf [] (slot ∷ slots) = ⊥
AreOf (item ∷ items) [] = ⊥
AreOf (item ∷ items) (slot ∷ slots) = Contains item.choices slot × AreOf items slots

unfoldable pub areas_by : List PlanItem → List SlotFields → List ℕ
areas_by [] slots = []
areas_by (item ∷ items) [] = []
areas_by (item ∷ items) (slot ∷ slots) = item_area item slot ∷ areas_by items slots

-- the list passes, and no list that passes comes before it
record IsFirst (items : List PlanItem) (test : List SlotFields → Bool)
    (slots : List SlotFields) : Type 0 where
  of : AreOf items slots
  passes : test slots ≡ true
  first : (others : List SlotFields) → AreOf items others → test others ≡ true
      → IsNotBehind (areas_by items slots) (areas_by items others)

abbrev Finds : List PlanItem → (List SlotFields → Bool) → Option (List SlotFields) → Type 0
Finds items test (Some slots) = IsFirst items test slots
Finds items test None = (others : List SlotFields) → AreOf items others → test others ≡ true → ⊥

find-map : {X Y : Type 0} (test : Y → Bool) (f : X → Y) (xs : List X)
    → find test (map f xs) ≡ option_map f (find (λ x. test (f x)) xs)
find-map test f [] = refl
find-map test f (x ∷ xs) = grind (arith, find-map test f xs)

-- of the lists whose first slot is one of these, the first that passes
record IsFirstOf (item : PlanItem) (items : List PlanItem) (choices : List SlotFields)
    (test : List SlotFields → Bool) (slot : SlotFields) (slots : List SlotFields) : Type 0 where
  chosen : Contains choices slot
  of : AreOf items slots
  passes : test (slot ∷ slots) ≡ true
  first : (s : SlotFields) (others : List SlotFields) → Contains choices s → AreOf items others
      → test (s ∷ others) ≡ true → IsNotBehind (item_area item slot ∷ areas_by items slots)
      (item_area item s ∷ areas_by items others)

abbrev FindsOf : PlanItem → List PlanItem → List SlotFields → (List SlotFields → Bool)
    → Option (List SlotFields) → Type 0
FindsOf item items choices test (Some (slot ∷ slots)) = IsFirstOf item items choices test slot slots
FindsOf item items choices test (Some []) = ⊥
FindsOf item items choices test None = (s : SlotFields) (others : List SlotFields)
    → Contains choices s → AreOf items others → test (s ∷ others) ≡ true → ⊥

-- a slot after another has a larger area
pub area-later : (c : ClassFields) (p : Bool) (slot : SlotFields) (slots : List SlotFields)
    {other : SlotFields} → Ascend (slot_areas c p (slot ∷ slots)) → Contains slots other
    → area_of c slot p < area_of c other p
area-later c p slot slots {other} ascend is =
    let has = Contains-area c p slots is in
    omega
    (arith, ascend 0 (suc has.0) (area_of c other p) (omega arith) (omega (arith, has.1)), has.2)

-- what comes after the first of ascending numbers ascends
pub ascend-behind : {n : ℕ} (ns : List ℕ) → Ascend (n ∷ ns) → Ascend ns
ascend-behind ns ascend =
    λ i j d before lt. ascend (suc i) (suc j) d (omega (arith, before)) (omega (arith, lt))

module _ (item : PlanItem) (items : List PlanItem) (test : List SlotFields → Bool) where
  none-of : (slot : SlotFields) (choices : List SlotFields)
      → ((others : List SlotFields) → AreOf items others → test (slot ∷ others) ≡ true → ⊥)
      → FindsOf item items choices test None → FindsOf item items (slot ∷ choices) test None
  none-of slot choices none later s others h of passes = grind arith

  first-later : (slot : SlotFields) (choices : List SlotFields)
      → ((others : List SlotFields) → AreOf items others → test (slot ∷ others) ≡ true → ⊥)
      → (t : SlotFields) (slots : List SlotFields) → IsFirstOf item items choices test t slots →
      (s : SlotFields) (others : List SlotFields) → Contains (slot ∷ choices) s → AreOf items others
      → test (s ∷ others) ≡ true → IsNotBehind (item_area item t ∷ areas_by items slots)
      (item_area item s ∷ areas_by items others)
  first-later slot choices none t slots is s others h of passes = grind arith

  none-more : (slot : SlotFields) (choices : List SlotFields)
      → ((others : List SlotFields) → AreOf items others → test (slot ∷ others) ≡ true → ⊥)
      → (found : Option (List SlotFields)) → FindsOf item items choices test found
      → FindsOf item items (slot ∷ choices) test found
  none-more slot choices none None is = none-of slot choices none is
  none-more slot choices none (Some []) is = is
  none-more slot choices none (Some (t ∷ slots)) is = record {
    chosen = (suc is.chosen.0, omega (arith, is.chosen.1), is.chosen.2);
    of = is.of;
    passes = is.passes;
    first = first-later slot choices none t slots is;
  }

  first-here : {slot : SlotFields} (choices : List SlotFields)
      → Ascend (slot_areas item.class item.protected (slot ∷ choices)) → {slots : List SlotFields}
      → IsFirst items (λ rest. test (slot ∷ rest)) slots → {s : SlotFields}
      {others : List SlotFields} → Contains (slot ∷ choices) s → AreOf items others
      → test (s ∷ others) ≡ true → IsNotBehind (item_area item slot ∷ areas_by items slots)
      (item_area item s ∷ areas_by items others)
  unfolding IsNotBehind
  first-here choices ascend is (zero, within, at) of passes = grind arith
  first-here {slot} choices ascend is {s} (suc k, within, at) of passes = inl
      (area-later item.class item.protected slot choices ascend (k, omega (arith, within), at))

  finds-more : (slot : SlotFields) (choices : List SlotFields) (later : List (List SlotFields))
      → Ascend (slot_areas item.class item.protected (slot ∷ choices))
      → FindsOf item items choices test (find test later) → (found : Option (List SlotFields))
      → Finds items (λ slots. test (slot ∷ slots)) found → FindsOf item items (slot ∷ choices) test
      (option_or (option_map (λ slots. slot ∷ slots) found) (find test later))
  finds-more slot choices later ascend rest None none = grind (arith, none-more)
  finds-more slot choices later ascend rest (Some slots) is =
      grind (arith, is.of, is.passes, first-here choices ascend is)

  finds-of : (choices : List SlotFields) → Ascend (slot_areas item.class item.protected choices)
      → ((among : List SlotFields → Bool) → Finds items among (find among (all_lists items)))
      → FindsOf item items choices test
      (find test (flat_map (λ slot. map (λ slots. slot ∷ slots) (all_lists items)) choices))
  finds-of [] ascend all = λ s others has of passes. absurd (omega (arith, has.1))
  finds-of (slot ∷ choices) ascend all =
      let later : List (List SlotFields) =
      flat_map (λ s. map (λ slots. s ∷ slots) (all_lists items)) choices in
      let found_is = find-append test (map (λ slots. slot ∷ slots) (all_lists items)) later
      ∙ ap (λ o. option_or o (find test later))
      (find-map test (λ slots. slot ∷ slots) (all_lists items)) in
      subst (FindsOf item items (slot ∷ choices) test) (sym found_is)
      (finds-more slot choices later ascend (finds-of choices
      (ascend-behind (slot_areas item.class item.protected choices) ascend)
      all)
      (find (λ slots. test (slot ∷ slots)) (all_lists items)) (all (λ slots. test (slot ∷ slots))))

  whole-none : FindsOf item items item.choices test None → {others : List SlotFields}
      → AreOf (item ∷ items) others → test others ≡ true → ⊥
  unfolding AreOf
  whole-none none of passes = grind arith

  whole-first : {slot : SlotFields} {slots : List SlotFields}
      → IsFirstOf item items item.choices test slot slots → {others : List SlotFields}
      → AreOf (item ∷ items) others → test others ≡ true
      → IsNotBehind (areas_by (item ∷ items) (slot ∷ slots)) (areas_by (item ∷ items) others)
  unfolding AreOf areas_by
  whole-first is of passes = grind arith

  finds-whole : (found : Option (List SlotFields)) → FindsOf item items item.choices test found
      → Finds (item ∷ items) test found
  unfolding AreOf
  finds-whole found none = grind (arith, whole-none, whole-first)

finds-nothing : (test : List SlotFields → Bool) (b : Bool) → test [] ≡ b
    → Finds [] test (cond b (Some []) None)
unfolding AreOf areas_by IsNotBehind
finds-nothing test true is = grind arith
finds-nothing test false is = none
  where
    none : (others : List SlotFields) → AreOf [] others → test others ≡ true → ⊥
    none [] of passes = let both : false ≡ true = sym is ∙ passes in absurd cc
    none (s ∷ others) of passes = of

finds : (items : List PlanItem) → AreOrdered items → (test : List SlotFields → Bool)
    → Finds items test (find test (all_lists items))
unfolding all_lists
finds [] ordered test = finds-nothing test (test []) refl
finds (item ∷ items) ordered test = search (arith, finds-whole, finds-of, finds items ordered.1)

-- ---- it is the least list

slots-frames : (items : List PlanItem) (slots : List SlotFields)
    → frames_in_slots items slots ≡ frames_with_areas (map open_frame items) (areas_by items slots)
unfolding frames_in_slots frames_with_areas areas_by
slots-frames [] slots = refl
slots-frames (item ∷ items) [] = refl
slots-frames (item ∷ items) (slot ∷ slots) = grind (arith, slots-frames items slots)

of-chosen : (items : List PlanItem) (slots : List SlotFields) → AreOf items slots
    → AreChosenAreas (map open_frame items) (areas_by items slots)
unfolding AreOf AreChosenAreas areas_by
of-chosen [] [] of = tt
of-chosen [] (slot ∷ slots) of = absurd of
of-chosen (item ∷ items) [] of = absurd of
of-chosen (item ∷ items) (slot ∷ slots) of =
    (Contains-area item.class item.protected item.choices of.0, of-chosen items slots of.1)

-- the areas of a choice are the areas of a list of slots
pub chosen-of : (items : List PlanItem) (areas : List ℕ)
    → AreChosenAreas (map open_frame items) areas
    → (slots : List SlotFields) × AreOf items slots × (areas_by items slots ≡ areas)
unfolding AreOf AreChosenAreas areas_by
chosen-of [] [] chosen = ([], tt, refl)
chosen-of [] (area ∷ areas) chosen = absurd chosen
chosen-of (item ∷ items) [] chosen = absurd chosen
chosen-of (item ∷ items) (area ∷ areas) chosen =
    let slot = slot-area item.class item.protected item.choices chosen.0 in
    let rest = chosen-of items areas chosen.1 in
    (slot.0 ∷ rest.0, (slot.1, rest.1), ap₂ (λ n (l : List ℕ). n ∷ l) slot.2 rest.2)

module _ (window : ℕ) (items : List PlanItem) where
  abbrev passing : List SlotFields → Bool
  passing slots = has_layout window 0 0 (frames_in_slots items slots)

  -- slots that pass the test have a layout
  pub slots-feasible : (slots : List SlotFields) → passing slots ≡ true
      → HasLayout window 0 (frames_with_areas (map open_frame items) (areas_by items slots))
  slots-feasible slots passes = grind (arith, slots-frames, has-feasible, passes)

  -- slots that have a layout pass the test
  pub feasible-slots : (slots : List SlotFields)
      → HasLayout window 0 (frames_with_areas (map open_frame items) (areas_by items slots))
      → passing slots ≡ true
  feasible-slots slots feasible = grind (arith, feasible-has, slots-frames)

  first-list-least : {slots : List SlotFields} → AreOrdered items
      → first_list window items ≡ Some slots
      → AreOf items slots × IsLeastList window (map open_frame items) (areas_by items slots)
  first-list-least ordered is =
      grind (arith, finds, of-chosen, slots-feasible, chosen-of, feasible-slots)

  -- if no list is found, no choice can be laid
  pub no-list : AreOrdered items → first_list window items ≡ None
      → CanBeLaid window (map open_frame items) → ⊥
  unfolding CanBeLaid
  no-list ordered is can = grind (arith, finds, chosen-of, feasible-slots)

  -- if a list is found, some choice can be laid
  pub list-can : AreOrdered items → {slots : List SlotFields} → first_list window items ≡ Some slots
      → CanBeLaid window (map open_frame items)
  unfolding CanBeLaid
  list-can ordered {slots} is = grind (arith, first-list-least ordered is)

  -- if some choice can be laid, a list is found
  pub some-list : AreOrdered items → CanBeLaid window (map open_frame items)
      → (slots : List SlotFields) × (first_list window items ≡ Some slots)
  some-list ordered can = grind (arith, no-list)

  -- if no choice can be laid, no list is found
  pub never-list : AreOrdered items → (CanBeLaid window (map open_frame items) → ⊥)
      → first_list window items ≡ None
  unfolding CanBeLaid
  never-list ordered never = grind (arith, list-can)

-- ---- with main data as early as they may be, it is the plan of these items

laid-from : (window end before : ℕ) (items : List PlanItem) (slots : List SlotFields)
    → AreOf items slots →
    let begins = begins_of window end before (frames_in_slots items slots) in
    let placed = placed_items items slots begins in
    AreItemSlots items placed × (item_areas items placed ≡ areas_by items slots)
    × (map (λ (p : Placed). p.begin) placed ≡ begins)
unfolding AreOf AreItemSlots item_areas areas_by frames_in_slots begins_of placed_items
laid-from window end before [] [] of = (tt, refl, refl)
laid-from window end before [] (slot ∷ slots) of = absurd of
laid-from window end before (item ∷ items) [] of = absurd of
laid-from window end before (item ∷ items) (slot ∷ slots) of =
    grind (
      arith,
      laid-from window (max end (before - window) + item.bytes) (before + item_area item
          slot) items slots of.1,
    )

-- items with main data as early as they may be have these slots and areas, and the earliest starts
pub laid-early : (window : ℕ) (items : List PlanItem) (slots : List SlotFields) → AreOf items slots
    → AreItemSlots items (earliest_placement window items slots)
    × (item_areas items (earliest_placement window items slots) ≡ areas_by items slots)
    × (map (λ (p : Placed). p.begin) (earliest_placement window items slots) ≡ begins_of window 0 0
    (frames_with_areas (map open_frame items)
    (item_areas items (earliest_placement window items slots))))
laid-early window items slots of =
    grind (arith, laid-from window 0 0 items slots of, of, slots-frames items slots)

module _ (window : ℕ) (items : List PlanItem) (ordered : AreOrdered items) where
  plan-laid : {slots : List SlotFields} → first_list window items ≡ Some slots
      → IsPlanFor window items (earliest_placement window items slots)
  plan-laid {slots} is =
      let found = first-list-least window items ordered is in
      let laid = laid-early window items slots found.0 in
      record {
        slots = laid.0;
        least = subst (IsLeastList window (map open_frame items)) (sym laid.1) found.1;
        begins = laid.2;
      }

  -- a plan is the plan that is found
  pub plan-found : {placed : List Placed} → IsPlanFor window items placed
      → least_placement window items ≡ Some placed
  unfolding CanBeLaid
  plan-found {placed} plan = at (first_list window items) refl
    where
      at : (found : Option (List SlotFields)) → first_list window items ≡ found
          → option_map (earliest_placement window items) found ≡ Some placed
      at None is = absurd (no-list window items ordered is
          (item_areas items placed, plan.least.chosen, plan.least.feasible))
      at (Some slots) is = ap Some (one_plan_for ordered (plan-laid is) plan)

  -- what is found is a plan
  pub found-plan : {placed : List Placed} → least_placement window items ≡ Some placed
      → IsPlanFor window items placed
  found-plan {placed} same = at (first_list window items) refl same
    where
      at : (found : Option (List SlotFields)) → first_list window items ≡ found
          → option_map (earliest_placement window items) found ≡ Some placed
          → IsPlanFor window items placed
      at None is e = absurd cc
      at (Some slots) is e =
          subst (IsPlanFor window items) (ap (λ o. unwrap_or o placed) e) (plan-laid is)

  -- if no choice can be laid, no plan is found
  pub none-found : (CanBeLaid window (map open_frame items) → ⊥)
      → least_placement window items ≡ None
  none-found never = grind (arith, never-list)

  -- if some choice can be laid, a plan is found
  pub can-found : CanBeLaid window (map open_frame items)
      → (placed : List Placed) × (least_placement window items ≡ Some placed)
  can-found can = let found = some-list window items ordered can in (
    earliest_placement window items found.0,
    ap (option_map (earliest_placement window items)) found.1,
  )

  can-made : CanBeLaid window (map open_frame items)
      → IsPlanFor window items (unwrap_or (least_placement window items) [])
  can-made can =
      let found = can-found can in
      subst (IsPlanFor window items) (sym (ap (λ o. unwrap_or o []) found.1))
      (found-plan found.1)

-- ---- the lead-ins

own-chosen : (choices : HeaderFields → List SlotFields) (part : List Need) → AreInOrder choices part
    → AreChosenAreas (open_frames choices part) (map (area_by_header own_area_of) part)
own-chosen choices [] order = nothing_chosen choices own_area_of
own-chosen choices (need ∷ part) order =
    search (arith, chosen-cons, Contains-area, own-chosen choices part order.1)

module _ (window : ℕ) (choices : HeaderFields → List SlotFields) where
  -- the frames of a part after a lead-in with any slot
  abbrev after_any : Need → List Need → List PlanItem
  after_any first part =
      lead_in_item (class_of first.header) all_slots ∷ map (need_item choices) (first ∷ part)

  abbrev CanBeLaidAfter : Need → List Need → Type 0
  CanBeLaidAfter first part = CanBeLaid window (map open_frame (after_any first part))

  after-reserve_before : (first : Need) (part : List Need) (areas : List ℕ)
      → AreChosenAreas (open_frames choices (first ∷ part)) areas
      → reserve_before (open_frames choices (first ∷ part)) ≤ window
      → reserve_before (open_frames choices (first ∷ part))
      ≤ greatest_number (slot_areas (class_of first.header) false all_slots)
      → AreReservesInWindow window (open_frames choices (first ∷ part)) → CanBeLaidAfter first part
  unfolding AreChosenAreas reserve_before AreReservesInWindow
  after-reserve_before first part areas chosen most room within =
      let class : ClassFields = class_of first.header in
      can-reserve_before window (map open_frame (after_any first part))
      (area_of class largest_slot false ∷ areas) (
        Contains-area class false all_slots
            (Contains-all_slots largest_slot (lit≤ tt, lit≤ tt)),
        chosen,
      ) (omega (arith, room)) (most, within)

  after-lead : (first : Need) (part : List Need) (lead_in : Option SlotFields)
      → IsLeadIn window choices (first ∷ part) lead_in → CanBeLaidAfter first part
  unfolding IsLeadIn part_items CanBeLaid
  after-lead first part None can = grind (arith, reserve_before-can, first, after-reserve_before)
  after-lead first part (Some slot) is =
      grind (arith, lead-first window choices first part slot is.0 is.2)

  -- the first slot of the least list is the slot of the lead-in
  first-lead : (first : Need) (part : List Need) (slots : List SlotFields)
      → (CanBeLaid window (map open_frame (map (need_item choices) (first ∷ part))) → ⊥)
      → AreOf (after_any first part) slots → IsLeastList window
      (map open_frame (after_any first part)) (areas_by (after_any first part) slots)
      → IsLeadIn window choices (first ∷ part) (slice_get slots 0)
  unfolding part_items AreOf areas_by
  first-lead first part slots never of least = grind (arith, lead-first)

  lead-by : {first : Need} (part : List Need) → AreInOrder choices (first ∷ part)
      → CanBeLaidAfter first part → (found : Option (List SlotFields))
      → first_list window (map (need_item choices) (first ∷ part)) ≡ found
      → IsLeadIn window choices (first ∷ part) (cond (is_some found) None
      (option_and_then (λ slots. slice_get slots 0) (first_list window (after_any first part))))
  unfolding IsLeadIn part_items
  lead-by {first} part order can (Some slots) is = grind (arith, list-can, first, ordered_frames)
  lead-by {first} part order can None is =
      let ordered : AreOrdered (after_any first part) =
      grind (arith, slots_ascend, ordered_frames, first) in
      let found = some-list window (after_any first part) ordered can in
      let least = first-list-least window (after_any first part) ordered found.1 in
      subst (λ o. IsLeadIn window choices (first ∷ part)
      (option_and_then (λ slots. slice_get slots 0) o)) (sym found.1)
      (first-lead first part found.0 (no-list window (map (need_item choices) (first ∷ part))
      (ordered_frames choices (first ∷ part) order) is) least.0 least.1)

  lead-made : {first : Need} (part : List Need) → AreInOrder choices (first ∷ part)
      → CanBeLaidAfter first part
      → IsLeadIn window choices (first ∷ part) (lead_in_alone window choices (first ∷ part))
  unfolding lead_in_alone
  lead-made {first} part order can = grind (arith, lead-by, first)

  no-part : IsLeadIn window choices [] (lead_in_alone window choices [])
  unfolding IsLeadIn part_items lead_in_alone
  no-part = nothing-can window

  lead-alone : (part : List Need) {lead_in : Option SlotFields} → AreInOrder choices part
      → IsLeadIn window choices part lead_in → lead_in_alone window choices part ≡ lead_in
  lead-alone [] order is = search (arith, one_lead, no-part)
  lead-alone (first ∷ part) order is = search (arith, one_lead, lead-made, after-lead)

  leads-alone : (parts : List (List Need)) (lead_ins : List (Option SlotFields))
      → AllInOrder choices parts → AreLeadIns window choices parts lead_ins
      → map (lead_in_alone window choices) parts ≡ lead_ins
  unfolding AreLeadIns
  leads-alone [] [] order are = refl
  leads-alone [] (lead_in ∷ lead_ins) order are = absurd are
  leads-alone (part ∷ parts) [] order are = absurd are
  leads-alone (part ∷ parts) (lead_in ∷ lead_ins) order are =
      grind (arith, lead-alone, leads-alone parts lead_ins order.1 are.1)

  -- ---- the plan

  -- a plan of parts is the first of all lists with a layout
  pub plan-least : {parts : List (List Need)} {placed : List Placed}
      → PartsChooseInOrder choices parts → IsPlan window choices parts placed
      → placed ≡ least_plan window choices parts
  unfolding least_plan
  plan-least order plan = grind (arith, all_in_order, plan-found, ordered_whole, leads-alone)

  ordered_led : (part : List Need) → AreInOrder choices part → AreOrdered (led_items choices part)
  unfolding led_items
  ordered_led part order = grind (arith, slots_ascend, ordered_frames)

  -- the led plan of a part is the first list after one lead-in
  pub led-least : {part : List Need} {placed : List Placed} → PartsChooseInOrder choices (part ∷ [])
      → IsLedPlan window choices part placed → placed ≡ led_plan window choices part
  unfolding led_plan
  led-least {part} {placed} order plan =
      let all = all_in_order (part ∷ []) order in
      sym (ap (λ o. unwrap_or o [])
      (plan-found window (led_items choices part) (ordered_led part all.0) plan))

-- parts of one class that have layouts have a plan, which is the only one
module _ (class : ClassFields) (choices : HeaderFields → List SlotFields) where
  abbrev window_is : ℕ
  window_is = window_of class.version

  after-feasible : {first : Need} (part : List Need) → class_of first.header ≡ class
      → AreInOrder choices (first ∷ part)
      → HasLayout window_is window_is (map own_frame (first ∷ part))
      → CanBeLaidAfter window_is choices first part
  after-feasible {first} part same order feasible =
      let chosen = own-chosen choices (first ∷ part) order in
      let all =
      reserve_before-from window_is 0 choices own_area_of
      (first ∷ part) feasible chosen in
      let spanned =
      subst (λ k. window_of k.version ≤ area_of (class_of first.header) largest_slot false) same
      (window-spanned (class_of first.header) order.0.class) in
      after-reserve_before window_is choices first part
      (map (area_by_header own_area_of) (first ∷ part)) chosen
      all.0 (omega (arith, all.0, leads-span (class_of first.header) spanned)) all.1

  lead-feasible : (part : List Need) → AreNeedsOfClass class part → AreInOrder choices part
      → HasLayout window_is window_is (map own_frame part)
      → IsLeadIn window_is choices part (lead_in_alone window_is choices part)
  unfolding AreNeedsOfClass
  lead-feasible [] same order feasible = no-part window_is choices
  lead-feasible (first ∷ part) same order feasible = grind (arith, lead-made, first, after-feasible)

  leads-feasible : (parts : List (List Need)) → All (λ part. AreNeedsOfClass class part) parts
      → AllInOrder choices parts → ArePartsFeasible window_is parts
      → AreLeadIns window_is choices parts (map (lead_in_alone window_is choices) parts)
  unfolding AreLeadIns ArePartsFeasible
  leads-feasible [] same order feasible = tt
  leads-feasible (part ∷ parts) same order feasible = (
    lead-feasible part (same 0 part (omega arith)) order.0 feasible.0,
    leads-feasible parts (λ k d lt. same (suc k) d (omega (arith, lt))) order.1 feasible.1,
  )

  plan-made : {parts : List (List Need)} → All (λ part. AreNeedsOfClass class part) parts
      → PartsChooseInOrder choices parts → ArePartsFeasible window_is parts
      → IsPlan window_is choices parts (least_plan window_is choices parts)
  unfolding least_plan
  plan-made {parts} same order feasible =
      let all = all_in_order parts order in
      let lead_ins : List (Option SlotFields) = map (lead_in_alone window_is choices) parts in
      let items : List PlanItem = all_items choices parts lead_ins in
      let alone = leads-feasible parts same all feasible in
      record {
        lead_ins = lead_ins;
        alone = alone;
        whole = can-made window_is items (ordered_whole choices parts lead_ins all)
            (whole-can window_is choices parts lead_ins alone);
      }

  led-can : (part : List Need) → AreNeedsOfClass class part → AreInOrder choices part
      → HasLayout window_is window_is (map own_frame part)
      → CanBeLaid window_is (map open_frame (led_items choices part))
  unfolding AreNeedsOfClass led_items
  led-can part same order feasible = grind (arith, nothing-can, after-feasible)

  led-made : {part : List Need} → AreNeedsOfClass class part
      → PartsChooseInOrder choices (part ∷ []) → ArePartsFeasible window_is (part ∷ [])
      → IsLedPlan window_is choices part (led_plan window_is choices part)
  unfolding ArePartsFeasible led_plan
  led-made {part} same order feasible =
      let all = all_in_order (part ∷ []) order in
      can-made window_is (led_items choices part) (ordered_led window_is choices part all.0)
      (led-can part same all.0 feasible.0)

-- parts that fit have one plan, which is the first of all lists with a layout
pub least-plan-is : (class : ClassFields) {choices : HeaderFields → List SlotFields}
    {parts : List (List Need)} (placed : List Placed)
    → All (λ part. AreNeedsOfClass class part) parts → PartsChooseInOrder choices parts
    → ArePartsFeasible (window_of class.version) parts
    → IsPlan (window_of class.version) choices parts placed
    ↔ (placed ≡ least_plan (window_of class.version) choices parts)
least-plan-is class {choices} {parts} placed same order feasible = (
  (λ plan. plan-least (window_of class.version) choices order plan),
  (λ is. subst (IsPlan (window_of class.version) choices parts) (sym is)
      (plan-made class choices same order feasible)),
)

-- one part after a lead-in has one led plan, which is the first of all lists with a layout
pub led-plan-is : LedPlanIsLeast
led-plan-is = λ class choices part placed same order feasible. (
  (λ plan. led-least (window_of class.version) choices order plan),
  (λ is. subst (IsLedPlan (window_of class.version) choices part) (sym is)
      (led-made class choices same order feasible)),
)
