-- There is at most one plan: areas decide the lead-ins,
-- one list is least, and each of its areas has one slot.
use Rattle.std.proofs.Common.{All, ap, ap₂, arith, drop, false, get_or, inl, inr, List, map, None}
use Rattle.std.proofs.Common.{Option, refl, Some, suc, sym, ℕ, [], ◌++◌, ◌∙◌, ◌∷◌, ◌≡◌}
use Rattle.std.proofs.lemmas.Bool.{cases_lt}
use Rattle.frame_header.proofs.SlotLemmas.{areas-ascend}
use Rattle.frame_header.specs.Fields.{ClassFields, HeaderFields, IsClass, SlotFields}
use Rattle.frame_header.specs.{Slots.all_slots, Tables.{area_of, class_of}}
use Rattle.slot_plan.proofs.AreaLemmas.{Ascend, lead-ascend, one-slot}
use Rattle.slot_plan.specs.Laws.{ChoosesInOrder, PartsChooseInOrder}
use Rattle.slot_plan.specs.Lists.{IsLeastList, IsNotBehind, OpenFrame}
use Rattle.slot_plan.specs.Parts.{all_items, AreLeadIns, IsLeadIn, item_area, need_item, part_items}
use Rattle.slot_plan.specs.Parts.{PlanItem, slot_areas}
use Rattle.slot_plan.specs.Plans.{AreItemSlots, IsPlan, IsPlanFor, item_areas}
use Rattle.slot_plan.specs.declared.needs.{Need.Need, Placed.Placed}

-- ---- there is one least list

-- two lists neither of which comes after the other are equal
pub equal_lists : (xs ys : List ℕ) → IsNotBehind xs ys → IsNotBehind ys xs → xs ≡ ys
unfolding IsNotBehind
equal_lists [] [] first second = refl
equal_lists [] (n ∷ ns) first second = absurd second
equal_lists (m ∷ ms) [] first second = absurd first
equal_lists (m ∷ ms) (n ∷ ns) first second =
    elim first as (λ _. m ∷ ms ≡ n ∷ ns) [
      | inl less ↦ grind arith
      | inr at ↦
          elim second as (λ _. m ∷ ms ≡ n ∷ ns) [
            | inl more ↦ absurd (omega (arith, more, at.0))
            | inr back ↦ ap₂ (λ k (l : List ℕ). k ∷ l) at.0 (equal_lists ms ns at.1 back.1)
          ]
    ]

one_least : {window : ℕ} {opens : List OpenFrame} {xs ys : List ℕ} → IsLeastList window opens xs
    → IsLeastList window opens ys → xs ≡ ys
one_least first second = grind (arith, equal_lists)

-- ---- what is placed

-- the areas of each item's choices ascend
abbrev pub AreOrdered : List PlanItem → Type 0
AreOrdered [] = Unit {0}
AreOrdered (item ∷ items) =
    Ascend (slot_areas item.class item.protected item.choices) × AreOrdered items

placed_same : {p q : Placed} → p.lead_in ≡ q.lead_in → p.slot ≡ q.slot → p.begin ≡ q.begin → p ≡ q
placed_same lead slot begin = grind arith

-- placed frames with the same areas and main_data_begin are the same
pub one_placed : (items : List PlanItem) (a b : List Placed) → AreOrdered items
    → AreItemSlots items a → AreItemSlots items b → item_areas items a ≡ item_areas items b
    → map (λ p. p.begin) a ≡ map (λ p. p.begin) b → a ≡ b
unfolding AreItemSlots item_areas
one_placed [] [] [] ordered first second areas begins = refl
one_placed [] [] (q ∷ b) ordered first second areas begins = absurd second
one_placed [] (p ∷ a) b ordered first second areas begins = absurd first
one_placed (item ∷ items) [] b ordered first second areas begins = absurd first
one_placed (item ∷ items) (p ∷ a) [] ordered first second areas begins = absurd second
one_placed (item ∷ items) (p ∷ a) (q ∷ b) ordered first second areas begins =
    let area : item_area item p.slot ≡ item_area item q.slot = ap (λ l. get_or l 0 0) areas in
    let slot =
    one-slot item.class item.protected item.choices ordered.0 first.1 second.1 area in
    let begin : p.begin ≡ q.begin = ap (λ l. get_or l 0 0) begins in
    ap₂ (λ (x : Placed) (l : List Placed). x ∷ l)
    (placed_same (first.0 ∙ sym second.0) slot begin)
    (one_placed items a b ordered.1 first.2 second.2 (ap (drop 1) areas) (ap (drop 1) begins))

-- frames with given lead-ins have at most one plan
pub one_plan_for : {window : ℕ} {items : List PlanItem} {a b : List Placed} → AreOrdered items
    → IsPlanFor window items a → IsPlanFor window items b → a ≡ b
one_plan_for ordered first second = grind (arith, one_least, one_placed)

-- ---- the lead-ins

-- the areas of the choices of each need in a part ascend
abbrev pub AreInOrder : (HeaderFields → List SlotFields) → List Need → Type 0
AreInOrder choices [] = Unit {0}
AreInOrder choices (need ∷ needs) = ChoosesInOrder choices need × AreInOrder choices needs

in_order : {choices : HeaderFields → List SlotFields} (part : List Need)
    → All (ChoosesInOrder choices) part → AreInOrder choices part
in_order [] all = tt
in_order {choices} (need ∷ needs) all =
    (all 0 need (omega arith), in_order needs (λ k d lt. all (suc k) d (omega (arith, lt))))

-- the areas of the choices ascend in each part
abbrev pub AllInOrder : (HeaderFields → List SlotFields) → List (List Need) → Type 0
AllInOrder choices [] = Unit {0}
AllInOrder choices (part ∷ parts) = AreInOrder choices part × AllInOrder choices parts

-- choices that ascend in every part ascend in all
pub all_in_order : {choices : HeaderFields → List SlotFields} (parts : List (List Need))
    → PartsChooseInOrder choices parts → AllInOrder choices parts
all_in_order [] all = tt
all_in_order {choices} (part ∷ parts) all = (
  in_order part (all 0 part (omega arith)),
  all_in_order parts (λ k d lt. all (suc k) d (omega (arith, lt))),
)

-- the areas of all slots of a class ascend
pub slots_ascend : (c : ClassFields) → IsClass c → Ascend (slot_areas c false all_slots)
slots_ascend c class = lead-ascend c refl (areas-ascend c class false)

-- a part has at most one lead-in
pub one_lead : (window : ℕ) (choices : HeaderFields → List SlotFields) (part : List Need)
    (x y : Option SlotFields) → AreInOrder choices part → IsLeadIn window choices part x
    → IsLeadIn window choices part y → x ≡ y
unfolding IsLeadIn
one_lead window choices part None None order first second = refl
one_lead window choices [] None (Some t) order first second = absurd second
one_lead window choices (need ∷ part) None (Some t) order first second = absurd (second.0 first)
one_lead window choices [] (Some s) y order first second = absurd first
one_lead window choices (need ∷ part) (Some s) None order first second = absurd (first.0 second)
one_lead window choices (need ∷ part) (Some s) (Some t) order first second =
    let class : ClassFields = class_of need.header in
    elim (cases_lt (area_of class s false) (area_of class t false)) as (λ _. Some s ≡ Some t) [
      | inl less ↦ absurd (second.3 s first.2 less first.1)
      | inr most ↦
          elim (cases_lt (area_of class t false) (area_of class s false))
          as (λ _. Some s ≡ Some t) [
            | inl less ↦ absurd (first.3 t second.2 less second.1)
            | inr least ↦ ap Some (one-slot class false all_slots
                (slots_ascend class order.0.class) first.2 second.2 (omega (arith, most, least)))
          ]
    ]

one_leads : (window : ℕ) (choices : HeaderFields → List SlotFields) (parts : List (List Need))
    (xs ys : List (Option SlotFields)) → AllInOrder choices parts
    → AreLeadIns window choices parts xs → AreLeadIns window choices parts ys → xs ≡ ys
unfolding AreLeadIns
one_leads window choices [] [] [] order first second = refl
one_leads window choices [] [] (y ∷ ys) order first second = absurd second
one_leads window choices [] (x ∷ xs) ys order first second = absurd first
one_leads window choices (part ∷ parts) [] ys order first second = absurd first
one_leads window choices (part ∷ parts) (x ∷ xs) [] order first second = absurd second
one_leads window choices (part ∷ parts) (x ∷ xs) (y ∷ ys) order first second =
    grind (arith, one_lead, one_leads window choices parts xs ys order.1 first.1 second.1)

-- ---- the whole

ordered_append : (xs ys : List PlanItem) → AreOrdered xs → AreOrdered ys → AreOrdered (xs ++ ys)
ordered_append [] ys first second = second
ordered_append (x ∷ xs) ys first second = (first.0, ordered_append xs ys first.1 second)

-- the choices of the frames of a part ascend
pub ordered_frames : (choices : HeaderFields → List SlotFields) (part : List Need)
    → AreInOrder choices part → AreOrdered (map (need_item choices) part)
ordered_frames choices [] order = tt
ordered_frames choices (need ∷ needs) order = grind (arith, ordered_frames choices needs order.1)

one_ascends : (n : ℕ) → Ascend (n ∷ [])
one_ascends n = λ i j d before lt. absurd (omega (arith, before, lt))

ordered_items : (choices : HeaderFields → List SlotFields) (part : List Need)
    (lead_in : Option SlotFields) → AreInOrder choices part
    → AreOrdered (part_items choices part lead_in)
unfolding part_items
ordered_items choices part lead_in order = grind (arith, ordered_frames, one_ascends)

-- the areas of the choices of all parts with their lead-ins ascend
pub ordered_whole : (choices : HeaderFields → List SlotFields) (parts : List (List Need))
    (lead_ins : List (Option SlotFields)) → AllInOrder choices parts
    → AreOrdered (all_items choices parts lead_ins)
unfolding all_items
ordered_whole choices [] lead_ins order = tt
ordered_whole choices (part ∷ parts) [] order = tt
ordered_whole choices (part ∷ parts) (lead_in ∷ lead_ins) order =
    grind (arith, ordered_append, ordered_items, ordered_whole choices parts lead_ins order.1)

-- parts have at most one plan
pub one-plan : (window : ℕ) (choices : HeaderFields → List SlotFields) (parts : List (List Need))
    (a b : List Placed) → PartsChooseInOrder choices parts → IsPlan window choices parts a
    → IsPlan window choices parts b → a ≡ b
one-plan window choices parts a b order first second =
    grind (arith, all_in_order, one_leads, one_plan_for, ordered_whole)
