-- The plan of a part that needs a lead-in is its led plan.
use Rattle.std.proofs.Common.{arith, Contains, false, List, map, None, Option, Some, ℕ, [], ◌∷◌}
use Rattle.std.proofs.lemmas.List.{append-nil}
use Rattle.frame_header.specs.{Fields.{ClassFields, HeaderFields, SlotFields}, Slots.all_slots}
use Rattle.frame_header.specs.Tables.{area_of}
use Rattle.seam_laws.specs.LeadInLaws.{LedWhereNeeded}
use Rattle.slot_plan.proofs.AreaLemmas.{Contains-area, only_one}
use Rattle.slot_plan.proofs.{LeadInLemmas.{lead-least, only-area}, OnePlanLemmas.equal_lists}
use Rattle.slot_plan.specs.Lists.{AreChosenAreas, CanBeLaid, frames_with_areas, IsLeastList}
use Rattle.slot_plan.specs.Lists.{OpenFrame}
use Rattle.slot_plan.specs.Parts.{all_items, AreLeadIns, IsLeadIn, lead_in_item, led_items}
use Rattle.slot_plan.specs.Parts.{open_frame, part_items, PlanItem}
use Rattle.slot_plan.specs.Plans.{AreItemSlots, IsLedPlan, IsPlanFor, item_areas}
use Rattle.slot_plan.specs.declared.needs.{Need.Need, Placed.Placed}

-- the least list after this lead-in is the least list after one
-- of any slot, if the latter begins with this lead-in's area
one-first : {window : ℕ} (class : ClassFields) {slot : SlotFields} {opens : List OpenFrame}
    {rest areas : List ℕ} → Contains all_slots slot → IsLeastList window
    (open_frame (lead_in_item class all_slots) ∷ opens) (area_of class slot false ∷ rest)
    → IsLeastList window (open_frame (lead_in_item class (slot ∷ [])) ∷ opens) areas
    → IsLeastList window (open_frame (lead_in_item class all_slots) ∷ opens) areas
unfolding AreChosenAreas frames_with_areas
one-first class is any one = grind (arith, only-area, Contains-area, equal_lists)

of-any : {window : ℕ} {class : ClassFields} {slot : SlotFields} {items : List PlanItem}
    {rest : List ℕ}
    (placed : List Placed) → Contains all_slots slot → IsLeastList window
    (open_frame (lead_in_item class all_slots) ∷ map open_frame items) (area_of class slot false
    ∷ rest) → IsPlanFor window (lead_in_item class (slot ∷ []) ∷ items) placed
    → IsPlanFor window (lead_in_item class all_slots ∷ items) placed
unfolding AreItemSlots item_areas frames_with_areas
of-any [] is any plan = absurd plan.slots
of-any {window} {class} {slot} {items} {rest} (p ∷ placed) is
    any plan =
    grind (
      arith,
      only_one plan.slots.1,
      one-first class is any plan.least,
    )

module _ (window : ℕ) (choices : HeaderFields → List SlotFields) where
  of-lead : (part : List Need) (lead_in : Option SlotFields) {placed : List Placed}
      → (CanBeLaid window (map open_frame (part_items choices part None)) → ⊥)
      → IsLeadIn window choices part lead_in
      → IsPlanFor window (part_items choices part lead_in) placed
      → IsLedPlan window choices part placed
  unfolding IsLeadIn part_items led_items
  of-lead part None never alone plan = absurd (never alone)
  of-lead [] (Some slot) never alone plan = absurd alone
  of-lead (first ∷ part) (Some slot) {placed} never alone plan =
      let any = lead-least window choices first part slot alone in
      of-any placed alone.2 any.1 plan

  of-leads : (part : List Need) (lead_ins : List (Option SlotFields)) {placed : List Placed}
      → (CanBeLaid window (map open_frame (part_items choices part None)) → ⊥)
      → AreLeadIns window choices (part ∷ []) lead_ins
      → IsPlanFor window (all_items choices (part ∷ []) lead_ins) placed
      → IsLedPlan window choices part placed
  unfolding AreLeadIns all_items
  of-leads part lead_ins never alone plan = grind (arith, of-lead, append-nil)

-- if a part needs a lead-in, its plan is its led plan
pub led-needed : LedWhereNeeded
led-needed = grind (arith, of-leads)
