-- The best plan with a lead-in, and without one.
use Rattle.std.proofs.Common.{All, ap, arith, false, get_or, length, List, map, subst, sym, true, ℕ}
use Rattle.std.proofs.{Common.{[], ◌<◌, ◌∙◌, ◌∷◌, ◌≡◌, ◌≤◌}, lemmas.Bool.true≢false}
use Rattle.std.proofs.lemmas.List.{get_or-map, get_or_default, length-map}
use Rattle.best_plan.proofs.SumLemmas.{fits-laid, laid-fits, table-bound, table-own, table-sums}
use Rattle.best_plan.proofs.WalkLemmas.{best-walked, IsWalked, table-width, walked-best}
use Rattle.best_plan.proofs.WalkLemmas.{walked-more}
use Rattle.best_plan.specs.Best.{IsBestPlan, IsBestPlanFor, items_with_lead_in}
use Rattle.best_plan.specs.Rows.{IsAreaChoice, nothing}
use Rattle.best_plan.specs.Table.{IsLeadInOfSums, IsTable, WalksTable}
use Rattle.frame_header.proofs.SlotLemmas.{Contains-all_slots}
use Rattle.frame_header.specs.Fields.{ClassFields, HeaderFields, SlotFields}
use Rattle.frame_header.specs.Slots.{all_slots, areas_of, largest_slot}
use Rattle.frame_header.specs.Tables.{area_of, class_of}
use Rattle.slot_plan.proofs.{AreaLemmas.{Ascend, Contains-area, lead-ascend}, PartLemmas.frames-by}
use Rattle.slot_plan.specs.{Layouts.HasLayout, Lists.{CanBeLaid, frames_with_areas}}
use Rattle.slot_plan.specs.Parts.{lead_in_item, need_item, own_frame, PlanItem, slot_areas}
use Rattle.slot_plan.specs.Reserve.{free_bytes_behind, open_frames, own_area_of}
use Rattle.slot_plan.specs.declared.needs.{Need.Need, Placed.Placed}

module _ (window : ℕ) (choices : HeaderFields → List SlotFields) (needs : List Need)
    (sums places : List ℕ) where
  -- after a whole window the frames can keep their slots
  pub whole-sum : length needs ≤ 200000 → HasLayout window window (map own_frame needs)
      → IsTable window choices needs sums places → get_or sums window 0 ≤ 288200000
  whole-sum few feasible table =
      grind (
        arith,
        table-own window choices needs sums places table,
        frames-by choices own_area_of
            needs,
        fits-laid window window (map own_frame needs) feasible,
        table-sums window choices needs
            sums places table window (omega arith),
        table-bound,
      )

  -- if the table has a sum for no free bytes, the frames can be laid without a lead-in
  pub can-sum : IsTable window choices needs sums places → get_or sums 0 0 < nothing
      → CanBeLaid window (open_frames choices needs)
  unfolding CanBeLaid
  can-sum table some =
      grind (arith, table-sums window choices needs sums places table 0 (omega arith), laid-fits)

  -- if the table has no sum for no free bytes, the frames can't be laid without a lead-in
  pub cannot-sum : length needs ≤ 200000 → IsTable window choices needs sums places
      → nothing ≤ get_or sums 0 0 → CanBeLaid window (open_frames choices needs) → ⊥
  unfolding CanBeLaid
  cannot-sum few table none can =
      grind (
        arith,
        table-sums window choices needs sums places table 0 (omega arith),
        fits-laid
            window 0 (frames_with_areas (open_frames choices needs) can.0) can.2,
        table-bound window
            choices needs sums places can.0 table can.1,
      )

  -- if the table has a sum for no free bytes, the walk from there is the best plan
  pub plan-without : {old new placed : List Placed} → IsTable window choices needs sums places
      → get_or sums 0 0 < nothing → old ≡ [] → WalksTable window choices 0 needs old new
      → placed ≡ new → IsBestPlan window choices needs placed
  unfolding items_with_lead_in
  plan-without table some none walk is = grind (arith, can-sum)

  -- the first sum of the table is the sum for no free bytes
  pub first-sum : (value : ℕ) → IsTable window choices needs sums places
      → value ≡ get_or sums 0 value → get_or sums 0 0 ≡ value
  first-sum value table is = grind (arith, get_or_default, table-width)

-- the place of the least sum is the place of a slot
pub lead-within : (class : ClassFields) {sums : List ℕ} {window cost place : ℕ}
    → IsAreaChoice window 0 0 (slot_areas class false all_slots) sums cost place → cost < nothing
    → place < length all_slots
lead-within class is some = grind (arith, length-map)

module _ (window : ℕ) (class : ClassFields) (sums : List ℕ) (cost place : ℕ) where
  -- if the frames have a sum after a whole window, they have one after some lead-in
  pub lead-some : window ≤ area_of class largest_slot false
      → All (λ n. n ≤ 1441) (slot_areas class false all_slots) → get_or sums window 0 ≤ 288200000
      → IsAreaChoice window 0 0 (slot_areas class false all_slots) sums cost place → cost < nothing
  lead-some spanned most some is =
      grind (
        arith,
        Contains-area class false all_slots (Contains-all_slots
            largest_slot (omega arith, omega arith)),
        Contains-all_slots largest_slot (
          omega arith,
          omega
              arith,
        ),
        get_or_default,
      )

  -- the slot at the place of the least sum is the best lead-in by the table
  pub lead-by : {slots : List SlotFields} {slot : SlotFields} {lead : Placed}
      → IsAreaChoice window 0 0 (slot_areas class false all_slots) sums cost place → cost < nothing
      → slots ≡ all_slots → slot ≡ get_or slots place slot → Ascend (areas_of class false)
      → lead.slot ≡ slot → lead.lead_in ≡ true → lead.begin ≡ 0
      → IsLeadInOfSums window class sums lead
  lead-by choice some all at ascend is first begin =
      grind (arith, lead-within, get_or-map, lead-ascend)

with-lead-in : (choices : HeaderFields → List SlotFields) (needs : List Need) (d : Need)
    → 0 < length needs → items_with_lead_in true choices needs
    ≡ lead_in_item (class_of (get_or needs 0 d).header) all_slots ∷ map (need_item choices) needs
unfolding items_with_lead_in
with-lead-in choices needs d some = grind arith

module _ {window : ℕ} (choices : HeaderFields → List SlotFields) (needs : List Need) (d : Need)
    {class : ClassFields} {sums : List ℕ} (places : List ℕ) {lead : Placed} {free : ℕ}
    (some : 0 < length needs) (is : class ≡ class_of (get_or needs 0 d).header)
    (table : IsTable window choices needs sums places)
    (by : IsLeadInOfSums window class sums lead)
    (gives : free ≡ free_bytes_behind window 0 0 (area_of class lead.slot false)) where
  lead-whole : {more : List Placed} → IsBestPlanFor window free (map (need_item choices) needs) more
      → IsBestPlanFor window 0 (items_with_lead_in true choices needs) (lead ∷ more)
  lead-whole {more} best =
      let items : List PlanItem = map (need_item choices) needs in
      let rest = subst (λ n. IsWalked window n items more) gives
      (walked-best (omega (arith, gives)) best) in
      let whole : IsBestPlanFor window 0 (lead_in_item class all_slots ∷ items) (lead ∷ more) =
      best-walked (omega arith)
      (walked-more by.ascending by.choice by.some
      (table-sums window choices needs sums places table)
      by.area by.chosen by.lead_in by.begin rest) in
      subst (λ l. IsBestPlanFor window 0 l (lead ∷ more))
      (ap (λ k. lead_in_item k all_slots ∷ items) is ∙ sym (with-lead-in choices needs d some))
      whole

  -- if the table has no sum for no free bytes, the walk after the best lead-in is the best plan
  pub plan-behind : (old new placed : List Placed) → length needs ≤ 200000
      → nothing ≤ get_or sums 0 0 → old ≡ lead ∷ [] → WalksTable window choices free needs old new
      → placed ≡ new → IsBestPlan window choices needs placed
  plan-behind old new placed few none first walk result =
      grind (arith, true≢false, cannot-sum, lead-whole walk.best)

-- ---- what the call over all slots requires, and what it gives
-- some lead-in has a sum by the table, and the cheapest in the list is the cheapest of all slots
pub lead-ready : {window room : ℕ} (class : ClassFields) {sums areas : List ℕ}
    {slots : List SlotFields} {cost place : ℕ} → room ≡ window
    → areas ≡ slot_areas class false slots → slots ≡ all_slots
    → room ≤ area_of class largest_slot false → All (λ n. n ≤ 1441) areas
    → get_or sums window 0 ≤ 288200000 → IsAreaChoice room 0 0 areas sums cost place
    → IsAreaChoice window 0 0 (slot_areas class false all_slots) sums cost place × (cost < nothing)
lead-ready class same are all spanned most some is = grind (arith, lead-some)
