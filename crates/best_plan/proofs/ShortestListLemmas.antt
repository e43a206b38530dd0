-- The plan's list is one of the lists with as many lead-ins.
use Rattle.std.proofs.Common.{arith, Bool, Contains, false, List, map, None, Option, refl, Some}
use Rattle.std.proofs.Common.{subst, sum, sym, true, ℕ, [], ◌↔◌, ◌∷◌, ◌≡◌, ◌≤◌}
use Rattle.std.proofs.lemmas.{Bool.true≢false, List.append-nil}
use Rattle.best_plan.specs.{Best.{IsBestPlanFor, items_with_lead_in}, Laws.BestIsShortest}
use Rattle.frame_header.specs.{Fields.{ClassFields, HeaderFields, SlotFields}, Slots.all_slots}
use Rattle.frame_header.specs.Tables.{class_of}
use Rattle.slot_plan.proofs.AreaLemmas.{Contains-area}
use Rattle.slot_plan.specs.Lists.{AreChosenAreas, CanBeLaid, frames_with_areas}
use Rattle.slot_plan.specs.Parts.{all_items, AreLeadIns, IsLeadIn, lead_in_item, need_item}
use Rattle.slot_plan.specs.Parts.{open_frame, part_items, PlanItem, slot_areas}
use Rattle.slot_plan.specs.{Plans.{IsPlanFor, item_areas}, declared.needs.Need.Need}
use Rattle.slot_plan.specs.declared.needs.Placed.{Placed}

-- the only number of a list is the number that the list contains
pub contains-one : {m n : ℕ} → Contains (m ∷ []) n → m ≡ n
contains-one h = grind arith

module _ (choices : HeaderFields → List SlotFields) (first : Need) (needs : List Need)
    (slot : SlotFields) where
  abbrev items_behind : List SlotFields → List PlanItem
  items_behind slots =
      lead_in_item (class_of first.header) slots ∷ map (need_item choices) (first ∷ needs)

  -- areas with a lead-in of one slot are areas with a lead-in of any slot
  pub widened : (areas : List ℕ) → Contains all_slots slot
      → AreChosenAreas (map open_frame (items_behind (slot ∷ []))) areas
      → AreChosenAreas (map open_frame (items_behind all_slots)) areas
  unfolding AreChosenAreas
  widened [] has chosen = absurd chosen
  widened (area ∷ areas) has chosen =
      let class : ClassFields = class_of first.header in (
        subst (Contains (slot_areas class false all_slots)) (contains-one chosen.0)
            (Contains-area class false all_slots has),
        chosen.1,
      )

  -- with a lead-in of one slot and of any slot, the frames are the same
  pub same-frames : (areas : List ℕ)
      → frames_with_areas (map open_frame (items_behind (slot ∷ []))) areas
      ≡ frames_with_areas (map open_frame (items_behind all_slots)) areas
  unfolding frames_with_areas
  same-frames areas = grind arith

  with-lead : {window : ℕ} {placed best : List Placed} → Contains all_slots slot
      → IsPlanFor window (items_behind (slot ∷ [])) placed
      → IsBestPlanFor window 0 (items_behind all_slots) best
      → sum (item_areas (items_behind all_slots) best)
      ≤ sum (item_areas (items_behind (slot ∷ [])) placed)
  with-lead has plan is = grind (arith, widened, same-frames)

-- the frames of one part are its lead-in, if any, and its own
pub whole-one : (choices : HeaderFields → List SlotFields) (needs : List Need)
    (lead_in : Option SlotFields)
    → all_items choices (needs ∷ []) (lead_in ∷ []) ≡ part_items choices needs lead_in
unfolding all_items
whole-one choices needs lead_in = append-nil (part_items choices needs lead_in)

abbrev Holds : (HeaderFields → List SlotFields) → List Need → List Placed → List Placed → Bool
    → List (Option SlotFields) → List PlanItem → Type 0
Holds choices needs placed best lead_in lead_ins items =
    ((lead_in ≡ false) ↔ (lead_ins ≡ None ∷ []))
    × (sum (item_areas (items_with_lead_in lead_in choices needs) best)
    ≤ sum (item_areas items placed))

some-one : {slot : SlotFields} → Some slot ∷ [] ≡ None ∷ [] → ⊥
some-one e = absurd cc

by-lead : {window : ℕ} (choices : HeaderFields → List SlotFields) (needs : List Need)
    {placed best : List Placed} (lead_in : Bool) (other : Option SlotFields)
    → (lead_in ≡ false) ↔ CanBeLaid window (map open_frame (map (need_item choices) needs))
    → IsBestPlanFor window 0 (items_with_lead_in lead_in choices needs) best
    → IsLeadIn window choices needs other → IsPlanFor window (part_items choices needs other) placed
    → Holds choices needs placed best lead_in (other ∷ []) (part_items choices needs other)
unfolding IsLeadIn part_items items_with_lead_in
by-lead choices needs false None without is alone plan = grind arith
by-lead choices needs true None without is alone plan = grind (arith, true≢false)
by-lead choices [] lead_in (Some slot) without is alone plan = absurd alone
by-lead choices (first ∷ needs) false (Some slot) without is alone plan =
    absurd (alone.0 (without.0 refl))
by-lead choices (first ∷ needs) true (Some slot) without is alone plan =
    grind (arith, true≢false, some-one, with-lead)

by-leads : {window : ℕ} (choices : HeaderFields → List SlotFields) (needs : List Need)
    {placed best : List Placed} {lead_in : Bool} (lead_ins : List (Option SlotFields))
    → (lead_in ≡ false) ↔ CanBeLaid window (map open_frame (map (need_item choices) needs))
    → IsBestPlanFor window 0 (items_with_lead_in lead_in choices needs) best
    → AreLeadIns window choices (needs ∷ []) lead_ins
    → IsPlanFor window (all_items choices (needs ∷ []) lead_ins) placed
    → Holds choices needs placed best lead_in lead_ins (all_items choices (needs ∷ []) lead_ins)
unfolding AreLeadIns
by-leads choices needs [] without is alone plan = absurd alone
by-leads choices needs (other ∷ another ∷ lead_ins) without is alone plan = absurd alone.1
by-leads {window} choices needs
    {placed} {best} {lead_in} (other ∷ []) without is alone plan =
    let one = whole-one choices needs other in
    subst (Holds choices needs placed best lead_in (other ∷ [])) (sym one)
    (by-lead choices needs lead_in other without is
    alone.0 (subst (λ l. IsPlanFor window l placed) one plan))

-- the best plan has the least sum of areas of all lists with as many lead-ins that have a layout
pub best-shortest : BestIsShortest
best-shortest window choices needs placed best plan is =
    by-leads choices needs plan.lead_ins is.without is.whole plan.alone plan.whole
