-- A plan can be written frame by frame: its starts are as early as they may
-- be, so no later than those of a layout. Its slots are some of the 28.
use Rattle.std.proofs.Common.{ap, arith, Bool, cond, Contains, drop, false, flat_map, get_or, List}
use Rattle.std.proofs.Common.{map, max, min, None, Option, refl, Some, subst, sym, true, ℕ, []}
use Rattle.std.proofs.Common.{◌++◌, ◌+◌, ◌-◌, ◌∷◌, ◌≡◌, ◌≤◌}
use Rattle.std.proofs.Math.Nat.{le-max_left, le-max_right, max-le}
use Rattle.frame_header.specs.Fields.{HeaderFields, IsHeader, IsSlot, SlotFields}
use Rattle.frame_header.specs.Tables.{area_of, class_of}
use Rattle.laying.proofs.{PartsLemmas.parts_are, PlannedFrameLemmas.slot_among}
use Rattle.laying.specs.Fits.{AreInSlots, FitsFromReach, IsFittingPlan, placed_bytes, reach_behind}
use Rattle.laying.specs.{Laws.{PlansAreOfParts, PlansFit}, Needs.{need_of, needs_of_parts}}
use Rattle.laying.specs.Relaid.{AreSlots, rest_behind}
use Rattle.slot_plan.proofs.AreaLemmas.{only_one}
use Rattle.slot_plan.specs.{Layouts.{begins_of, HasLayout, IsDataLayout}, Lists.frames_with_areas}
use Rattle.slot_plan.specs.Parts.{all_items, AreLeadIns, IsLeadIn, item_area, need_item, open_frame}
use Rattle.slot_plan.specs.{Parts.{part_items, PlanItem}, Plans.{AreItemSlots, IsPlan, item_areas}}
use Rattle.slot_plan.specs.declared.needs.{Need.Need, Placed.Placed}
use Rattle.sync_survey.specs.Row.{Row}

-- ---- items of a plan, as requested

-- an item is the lead-in before this frame, or the frame
abbrev pub IsAsked : Bool → PlanItem → Need → Type 0
IsAsked true item need =
    (item.class ≡ class_of need.header) × (item.protected ≡ false) × (item.bytes ≡ 0)
IsAsked false item need = (item.class ≡ class_of need.header)
    × (item.protected ≡ need.header.protected) × (item.bytes ≡ need.bytes)

abbrev pub Asks : List PlanItem → List Need → Type 0
Asks [] [] = Unit {0}
Asks (item ∷ items) (need ∷ needs) =
    IsAsked item.lead_in item need × Asks items (rest_behind item.lead_in need needs)
Asks _ _ = ⊥

-- a place requested for a frame or a lead-in has an area of the frame's class
pub asked-area : (b : Bool) (item : PlanItem) (need : Need) (slot : SlotFields)
    → IsAsked b item need
    → item_area item slot ≡ area_of (class_of need.header) slot (cond b false need.header.protected)
asked-area b item need slot is = grind arith

-- a place requested for a frame or a lead-in holds the frame's main data, or nothing
pub asked-bytes : (b : Bool) (item : PlanItem) (need : Need) → IsAsked b item need
    → item.bytes ≡ placed_bytes b need
asked-bytes b item need is = grind arith

-- ---- from one frame to the next

fits-on : (window : ℕ) (items : List PlanItem) (needs : List Need) (placed : List Placed)
    {end low before : ℕ} (starts : List ℕ) → Asks items needs → AreItemSlots items placed
    → IsDataLayout window end before
    (frames_with_areas (map open_frame items) (item_areas items placed)) starts → low ≤ end
    → low ≤ before → map (λ (p : Placed). p.begin) placed
    ≡ begins_of window low before (frames_with_areas (map open_frame items)
    (item_areas items placed)) → FitsFromReach window (min window (before - low)) needs placed
unfolding AreItemSlots IsDataLayout begins_of frames_with_areas item_areas FitsFromReach
fits-on window [] [] [] starts asks for_items layout early within begins = tt
fits-on window [] (need ∷ needs) placed starts asks for_items layout early within begins =
    absurd asks
fits-on window (item ∷ items) [] placed starts asks for_items layout early within begins =
    absurd asks
fits-on window (item ∷ items) (need ∷ needs)
    (p ∷ placed) [] asks for_items layout early within begins = absurd layout
fits-on window (item ∷ items) (need ∷ needs) (p ∷ placed)
    {low = low} {before = before} (start ∷ starts) asks for_items layout early within begins =
    let at = max low (before - window) in
    let is : IsAsked p.lead_in item need =
    subst (λ b. IsAsked b item need) (sym for_items.0) asks.0 in
    let follow : Asks items (rest_behind p.lead_in need needs) =
    subst (λ b. Asks items (rest_behind b need needs)) (sym for_items.0) asks.1 in
    let area = asked-area p.lead_in item need p.slot is in
    let bytes = asked-bytes p.lead_in item need is in
    let begin : p.begin ≡ before - at = ap (λ l. get_or l 0 0) begins in
    let first : at ≤ start = max-le (omega (arith, early, layout.0)) (omega (arith, layout.1)) in
    let low_most = le-max_left low (before - window) in
    let reach = le-max_right low (before - window) in
    let behind : min window (before + item_area item p.slot - (at + item.bytes))
    ≡ reach_behind window
    p need = ap (min window) (omega (arith, begin, area, bytes, first, layout.2)) in (
      omega (arith, begin, low_most, reach),
      omega (arith, begin, area, bytes, first, layout.2, layout.3),
      subst (λ n. FitsFromReach window n (rest_behind p.lead_in need needs) placed) behind
          (fits-on window items
          (rest_behind p.lead_in need needs) placed starts follow for_items.2 layout.4
          (omega (arith, first)) (omega (arith, first, layout.3)) (ap (drop 1) begins)),
    )
fits-on window _ _ _ starts asks for_items layout early within begins = grind arith

-- items that ask for these frames, laid as early as possible, can be written frame by frame
pub items-fit : (window : ℕ) (items : List PlanItem) (needs : List Need) (placed : List Placed)
    → Asks items needs → AreItemSlots items placed
    → HasLayout window 0 (frames_with_areas (map open_frame items) (item_areas items placed))
    → map (λ (p : Placed). p.begin) placed
    ≡ begins_of window 0 0 (frames_with_areas (map open_frame items) (item_areas items placed))
    → FitsFromReach window 0 needs placed
unfolding HasLayout
items-fit window items needs placed asks for_items feasible begins =
    let none : min window (0 - 0) ≡ 0 = omega arith in
    subst (λ n. FitsFromReach window n needs placed) none (fits-on window items needs placed
    feasible.0 asks for_items feasible.1 (omega arith) (omega arith) begins)

-- each frame asks for itself
pub asks-each : (choices : HeaderFields → List SlotFields) (needs : List Need)
    → Asks (map (need_item choices) needs) needs
asks-each choices [] = tt
asks-each choices (need ∷ needs) = ((refl, refl, refl), asks-each choices needs)

-- ---- all parts

asks-items : (choices : HeaderFields → List SlotFields) (needs : List Need) (rest : List PlanItem)
    (more : List Need) → Asks rest more
    → Asks (map (need_item choices) needs ++ rest) (needs ++ more)
asks-items choices [] rest more asks = asks
asks-items choices (need ∷ needs) rest more asks =
    ((refl, refl, refl), asks-items choices needs rest more asks)

asks-part : (window : ℕ) (choices : HeaderFields → List SlotFields) (part : List Need)
    (lead_in : Option SlotFields) (rest : List PlanItem) (more : List Need)
    → IsLeadIn window choices part lead_in → Asks rest more
    → Asks (part_items choices part lead_in ++ rest) (part ++ more)
unfolding part_items IsLeadIn
asks-part window choices part lead_in rest more lead asks = grind (arith, asks-items)

asks-whole : (window : ℕ) (choices : HeaderFields → List SlotFields) (parts : List (List Need))
    (lead_ins : List (Option SlotFields)) → AreLeadIns window choices parts lead_ins
    → Asks (all_items choices parts lead_ins) (flat_map (λ (part : List Need). part) parts)
unfolding all_items AreLeadIns
asks-whole window choices [] lead_ins leads = tt
asks-whole window choices (part ∷ parts) [] leads = absurd leads
asks-whole window choices (part ∷ parts) (lead_in ∷ lead_ins) leads =
    grind (arith, asks-part, flat_map, asks-whole window choices parts lead_ins leads.1)

-- a plan of parts can be written frame by frame
pub parts-fit : {window : ℕ} {choices : HeaderFields → List SlotFields} {parts : List (List Need)}
    {placed : List Placed} → IsPlan window choices parts placed
    → FitsFromReach window 0 (flat_map (λ (part : List Need). part) parts) placed
parts-fit plan = grind (arith, items-fit, flat_map, asks-whole)

-- the needs of all parts, concatenated, are the needs of their frames
pub needs-flat : (parts : List (List Row))
    → flat_map (λ (part : List Need). part) (map (map need_of) parts) ≡ needs_of_parts parts
unfolding needs_of_parts
needs-flat [] = refl
needs-flat (rows ∷ parts) = ap (λ (l : List Need). map need_of rows ++ l) (needs-flat parts)

-- a plan for any choice of slots can be written frame by frame
pub plans-fit : PlansFit
plans-fit window choices parts placed plan = subst (λ needs. FitsFromReach window 0 needs placed)
    (needs-flat parts) (parts-fit plan)

-- ---- the slots of a plan are some of the 28

abbrev pub AllSlots : PlanItem → Type 0
AllSlots item = (slot : SlotFields) → Contains item.choices slot → IsSlot slot

-- each of these items is open only to slots
abbrev pub AreOpen : List PlanItem → Type 0
AreOpen [] = Unit {0}
AreOpen (item ∷ items) = AllSlots item × AreOpen items

-- the places of these items are in slots
pub open-in_slots : (items : List PlanItem) (placed : List Placed) → AreOpen items
    → AreItemSlots items placed → AreInSlots placed
unfolding AreItemSlots
open-in_slots [] [] are for_items = tt
open-in_slots (item ∷ items) (p ∷ placed) are for_items =
    (are.0 p.slot for_items.1, open-in_slots items placed are.1 for_items.2)
open-in_slots _ _ are for_items = absurd for_items

-- the headers are those of frames
abbrev pub AreHeaders : List Need → Type 0
AreHeaders [] = Unit {0}
AreHeaders (need ∷ needs) = IsHeader need.header × AreHeaders needs

abbrev pub AllHeaders : List (List Need) → Type 0
AllHeaders [] = Unit {0}
AllHeaders (part ∷ parts) = AreHeaders part × AllHeaders parts

module _ (window : ℕ) (choices : HeaderFields → List SlotFields) (slots : AreSlots choices) where
  open-items : (needs : List Need) (rest : List PlanItem) → AreHeaders needs → AreOpen rest
      → AreOpen (map (need_item choices) needs ++ rest)
  open-items [] rest are others = others
  open-items (need ∷ needs) rest are others = search (arith, open-items needs rest are.1 others)

  open-part : (part : List Need) (lead_in : Option SlotFields) (rest : List PlanItem)
      → AreHeaders part → IsLeadIn window choices part lead_in → AreOpen rest
      → AreOpen (part_items choices part lead_in ++ rest)
  unfolding part_items IsLeadIn
  open-part part None rest are lead others = open-items part rest are others
  open-part [] (Some slot) rest are lead others = absurd lead
  open-part (need ∷ part) (Some slot) rest are lead others =
      grind (arith, only_one, slot_among lead.2, open-items (need ∷ part) rest are others)

  open-whole : (parts : List (List Need)) (lead_ins : List (Option SlotFields)) → AllHeaders parts
      → AreLeadIns window choices parts lead_ins → AreOpen (all_items choices parts lead_ins)
  unfolding all_items AreLeadIns
  open-whole [] lead_ins are leads = tt
  open-whole (part ∷ parts) [] are leads = absurd leads
  open-whole (part ∷ parts) (lead_in ∷ lead_ins) are leads = open-part part lead_in
      (all_items choices parts lead_ins) are.0 leads.0 (open-whole parts lead_ins are.1 leads.1)

  -- a plan of parts fits, and has slots of the standard
  pub parts-fitting : {parts : List (List Need)} {placed : List Placed} → AllHeaders parts
      → IsPlan window choices parts placed
      → IsFittingPlan window (flat_map (λ (part : List Need). part) parts) placed
  parts-fitting are plan = search (arith, parts-fit, open-in_slots, open-whole)

-- ---- as requested

-- a plan made for parts concatenated as the planner takes them is a plan of the parts
pub asked-plans : PlansAreOfParts
asked-plans c choices parts placed fit plan = grind (arith, parts_are [] parts refl)
