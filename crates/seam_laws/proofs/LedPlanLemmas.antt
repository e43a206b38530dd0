-- The plan of a part after an unconditional lead-in, and the plan of a part that needs none: the
-- lead-in has the least slot whose area the frames fit after.
use Rattle.std.proofs.Common.{ap, append-nil, ap₂, arith, Contains, false, List, map, Option, refl}
use Rattle.std.proofs.Common.{subst, sym, ℕ, [], ◌∙◌, ◌∷◌, ◌≡◌, ◌≤◌}
use Rattle.frame_header.specs.{Fields.{ClassFields, HeaderFields, SlotFields}, Slots.all_slots}
use Rattle.frame_header.specs.Tables.{area_of, class_of}
use Rattle.laying.specs.NeedsFit.{own_choice}
use Rattle.seam_laws.proofs.OwnLeadInLemmas.{none-own}
use Rattle.seam_laws.specs.LeadInLaws.{AreInOwnSlots, AreLedInOwnSlots}
use Rattle.slot_plan.proofs.AreaLemmas.{Contains-area, only_one}
use Rattle.slot_plan.proofs.FreeByteLemmas.{chosen-own, cons-fits, fit-feasible, fits-cons}
use Rattle.slot_plan.proofs.FreeByteLemmas.{more-behind, within-fit}
use Rattle.slot_plan.specs.{FreeBytes.{FitsBehind, IsLeadInSlot}, Layouts.{begins_of, HasLayout}}
use Rattle.slot_plan.specs.Lists.{AreChosenAreas, frames_with_areas, IsNotBehind}
use Rattle.slot_plan.specs.Parts.{all_items, AreLeadIns, IsLeadIn, led_items, need_item, open_frame}
use Rattle.slot_plan.specs.Parts.{own_frame, own_slot_area, part_items}
use Rattle.slot_plan.specs.Plans.{AreItemSlots, IsLedPlan, IsPlan, IsPlanFor, item_areas}
use Rattle.slot_plan.specs.declared.needs.{Need.Need, Placed.Placed}

-- ---- frames in their own slots

own-areas : (needs : List Need) (placed : List Placed) → AreInOwnSlots needs placed
    → item_areas (map (need_item own_choice) needs) placed ≡ map own_slot_area needs
unfolding AreItemSlots item_areas
own-areas [] [] own = refl
own-areas [] (p ∷ placed) own = absurd own
own-areas (need ∷ needs) [] own = absurd own
own-areas (need ∷ needs) (p ∷ placed) own = grind (arith, only_one, own-areas needs placed own.2)

own-laid : (needs : List Need) → frames_with_areas (map open_frame
    (map (need_item own_choice) needs)) (map own_slot_area needs)
    ≡ map own_frame needs
unfolding frames_with_areas
own-laid [] = refl
own-laid (need ∷ needs) = ap (own_frame need ∷◌) (own-laid needs)

-- where main data begin in the plan of frames in their own slots
abbrev pub OwnBegins : ℕ → List Need → List Placed → Type 0
OwnBegins window needs placed =
    map (λ (p : Placed). p.begin) placed ≡ begins_of window 0 0 (map own_frame needs)

own-begins : {window : ℕ} (needs : List Need) {placed : List Placed}
    → IsPlanFor window (map (need_item own_choice) needs) placed → OwnBegins window needs placed
own-begins needs plan = grind (arith, own-areas, own-laid)

alone-begins : {window : ℕ} (needs : List Need) (lead_in : Option SlotFields)
    {placed : List Placed} → IsLeadIn window own_choice needs lead_in
    → IsPlanFor window (part_items own_choice needs lead_in) placed → FitsBehind window 0 needs
    → OwnBegins window needs placed
unfolding IsLeadIn part_items
alone-begins needs lead_in alone plan fits = grind (arith, own-begins, none-own)

leads-begins : {window : ℕ} (needs : List Need) (lead_ins : List (Option SlotFields))
    {placed : List Placed} → AreLeadIns window own_choice (needs ∷ []) lead_ins
    → IsPlanFor window (all_items own_choice (needs ∷ []) lead_ins) placed
    → FitsBehind window 0 needs → OwnBegins window needs placed
unfolding AreLeadIns all_items
leads-begins needs lead_ins alone plan fits = grind (arith, alone-begins, append-nil)

-- in the plan of frames that fit with no free bytes
-- before them, main data begin as early as they may
pub plan-begins : {window : ℕ} {needs : List Need} {placed : List Placed}
    → IsPlan window own_choice (needs ∷ []) placed → FitsBehind window 0 needs
    → OwnBegins window needs placed
plan-begins plan fits = grind (arith, leads-begins)

-- frames in their own slots whose main data begin alike are placed alike
pub own-same : (needs : List Need) (xs ys : List Placed) → AreInOwnSlots needs xs
    → AreInOwnSlots needs ys → map (λ (p : Placed). p.begin) xs ≡ map (λ (p : Placed). p.begin) ys
    → xs ≡ ys
unfolding AreItemSlots
own-same [] [] [] first second begins = refl
own-same [] [] (y ∷ ys) first second begins = absurd second
own-same [] (x ∷ xs) ys first second begins = absurd first
own-same (need ∷ needs) [] ys first second begins = absurd first
own-same (need ∷ needs) (x ∷ xs) [] first second begins = absurd second
own-same (need ∷ needs) (x ∷ xs) (y ∷ ys) first second begins =
    let slot =
    sym (only_one first.1) ∙ only_one second.1 in
    let lead = first.0 ∙ sym second.0 in
    let begin : x.begin ≡ y.begin = cc in
    let more : map (λ (p : Placed). p.begin) xs ≡ map (λ (p : Placed). p.begin) ys = cc in
    ap₂ ◌∷◌
    (ap (λ b. record { lead_in = b; slot = x.slot; begin = x.begin }) lead
    ∙ ap (λ t. record { lead_in = y.lead_in; slot = t; begin = x.begin }) slot
    ∙ ap (λ n. record { lead_in = y.lead_in; slot = y.slot; begin = n }) begin)
    (own-same needs xs ys first.2 second.2 more)

-- ---- after an unconditional lead-in

-- what a lead-in before a frame with this header needs, in this slot
abbrev pub lead_need : HeaderFields → SlotFields → Need
lead_need h slot = record { header = record h { protected = false; slot = slot }; bytes = 0 }

-- if a lead-in and frames fit with no free bytes before them, the frames fit after its area
pub lead-fits : (window : ℕ) (h : HeaderFields) (slot : SlotFields) (needs : List Need)
    → FitsBehind window 0 (lead_need h slot ∷ needs)
    → FitsBehind window (area_of (class_of h) slot false) needs
lead-fits window h slot needs fits =
    let area = area_of (class_of h) slot false in
    let behind = fits-cons (lead_need h slot) needs (omega arith) fits in
    more-behind window needs (omega arith) behind.1

-- if frames fit after the area of a lead-in, it and the frames fit with no free bytes before them
pub fits-lead : (window : ℕ) (h : HeaderFields) (slot : SlotFields) (needs : List Need)
    → FitsBehind window (area_of (class_of h) slot false) needs
    → FitsBehind window 0 (lead_need h slot ∷ needs)
fits-lead window h slot needs fits = grind (arith, slot, cons-fits, within-fit, fit-feasible)

not-behind : {m n : ℕ} (ms ns : List ℕ) → IsNotBehind (m ∷ ms) (n ∷ ns) → m ≤ n
unfolding IsNotBehind
not-behind ms ns is = grind arith

module _ (window : ℕ) (first : Need) (needs : List Need) where
  abbrev class : ClassFields
  class = class_of first.header

  abbrev all : List Need
  all = first ∷ needs

  -- the lead-in and the frames as they are laid
  led-laid : (slot : SlotFields)
      → frames_with_areas (map open_frame (led_items own_choice all))
      (area_of class slot false ∷ map own_slot_area all)
      ≡ map own_frame (lead_need first.header slot ∷ all)
  unfolding frames_with_areas led_items
  led-laid slot = grind (arith, slot, own-laid)

  led-chosen : {slot : SlotFields} → Contains all_slots slot
      → AreChosenAreas (map open_frame (led_items own_choice all))
      (area_of class slot false ∷ map own_slot_area all)
  unfolding AreChosenAreas led_items
  led-chosen {slot} has = (Contains-area class false all_slots has, chosen-own all)

  -- the lead-in of the plan and where the main data of all begin
  pub record IsLedAs (placed : List Placed) : Type 0 where
    pub lead : Placed
    pub rest : List Placed
    pub are : placed ≡ lead ∷ rest
    pub led : AreLedInOwnSlots window all placed
    pub slot : IsLeadInSlot window class all lead.slot
    pub own : AreInOwnSlots all rest
    pub begins : OwnBegins window (lead_need first.header lead.slot ∷ all) placed

  led-areas : (p : Placed) (placed : List Placed)
      → AreItemSlots (led_items own_choice all) (p ∷ placed)
      → item_areas (led_items own_choice all) (p ∷ placed)
      ≡ area_of class p.slot false ∷ map own_slot_area all
  unfolding AreItemSlots item_areas led_items
  led-areas p placed slots = grind (arith, own-areas)

  led-cons : {p : Placed} {placed : List Placed} → IsLedPlan window own_choice all (p ∷ placed)
      → IsLedAs (p ∷ placed)
  unfolding AreItemSlots AreLedInOwnSlots led_items
  led-cons {p} {placed} plan =
      let slots = plan.slots in
      let areas = led-areas p placed slots in
      let opens = map open_frame (led_items own_choice all) in
      let feasible = subst (HasLayout window 0) (led-laid p.slot)
      (subst (λ l. HasLayout window 0 (frames_with_areas opens l)) areas
      plan.least.feasible) in
      let is : IsLeadInSlot window class all p.slot =
      record {
        chosen = slots.1;
        fits = lead-fits window first.header p.slot all feasible;
        least = λ other has fits.
            not-behind
            (map own_slot_area all) (map own_slot_area all)
            (subst (λ l.
            IsNotBehind l (area_of class other false ∷ map own_slot_area all)) areas
            (plan.least.least (area_of class other false ∷ map own_slot_area all)
            (led-chosen has)
            (subst (HasLayout window 0) (sym (led-laid other))
            (fits-lead window first.header other all fits))));
      } in
      record {
        lead = p;
        rest = placed;
        are = refl;
        led = (slots.0, is, slots.2);
        slot = is;
        own = slots.2;
        begins =
            plan.begins
            ∙ ap (λ l. begins_of window 0 0 (frames_with_areas opens l)) areas
            ∙ ap (begins_of window 0 0) (led-laid p.slot);
      }

  -- the plan of a part after an unconditional lead-in: the
  -- lead-in has the least slot whose area the frames fit after
  pub led-as : {placed : List Placed} → IsLedPlan window own_choice all placed → IsLedAs placed
  unfolding AreItemSlots led_items
  led-as plan = grind (arith, led-cons)
