-- The plan of one part whose frames keep their slots has a lead-in exactly
-- if they want something, in the least slot after whose area they fit.
use Rattle.std.proofs.Common.{arith, false, inl, inr, List, map, Option, Some, ℕ, [], ◌∷◌}
use Rattle.std.proofs.lemmas.{Bool.cases_lt, List.append-nil}
use Rattle.frame_header.specs.{Fields.{ClassFields, SlotFields}, Tables.{area_of, class_of}}
use Rattle.seam_laws.specs.LeadInLaws.{AreInOwnSlots, AreLedInOwnSlots, LeadInWhereWanted}
use Rattle.slot_plan.proofs.AreaLemmas.{only_one}
use Rattle.slot_plan.proofs.FreeByteLemmas.{chosen-own, fit-own, more-behind, own-from, own-wanted}
use Rattle.slot_plan.proofs.FreeByteLemmas.{own_needed, own_slot, within-fit}
use Rattle.slot_plan.proofs.LeadInLemmas.{within-tail}
use Rattle.slot_plan.proofs.PlacedLemmas.{lead-chosen, lead-reserve_before, lead-within}
use Rattle.slot_plan.proofs.ReserveLemmas.{can-reserve_before, reserve_before-can}
use Rattle.slot_plan.specs.{FreeBytes.{FitsBehind, IsLeadInSlot}, Lists.{CanBeLaid, OpenFrame}}
use Rattle.slot_plan.specs.Parts.{all_items, AreLeadIns, IsLeadIn, lead_in_item, open_frame}
use Rattle.slot_plan.specs.{Parts.{own_frame, part_items}, Plans.{AreItemSlots, IsPlanFor}}
use Rattle.slot_plan.specs.Reserve.{area_by_header, open_frames, own_area_of}
use Rattle.slot_plan.specs.declared.needs.{Need.Need, Placed.Placed}

-- ---- a layout of the part alone, and after a lead-in

-- frames in their own slots that can be laid fit after no free bytes
pub own-none : (window : ℕ) (needs : List Need) → CanBeLaid window (open_frames own_slot needs)
    → FitsBehind window 0 needs
own-none window needs can = grind (arith, reserve_before-can, own_slot, within-fit, fit-own)

-- frames that fit after no free bytes can be laid in their own slots
pub none-own : (window : ℕ) (needs : List Need) → FitsBehind window 0 needs
    → CanBeLaid window (open_frames own_slot needs)
none-own window needs fits =
    let least = (own-wanted 0 fits).least 0 fits in
    can-reserve_before window (open_frames own_slot needs) (map (area_by_header own_area_of) needs)
    (chosen-own needs)
    (omega (arith, least)) (own-from 0 0 needs fits).1

abbrev behind_lead : ClassFields → SlotFields → List Need → List OpenFrame
behind_lead class slot needs =
    open_frame (lead_in_item class (slot ∷ [])) ∷ open_frames own_slot needs

lead-fits : (window : ℕ) (class : ClassFields) (slot : SlotFields) (needs : List Need)
    → CanBeLaid window (behind_lead class slot needs)
    → FitsBehind window (area_of class slot false) needs
lead-fits window class slot needs can =
    let opens = open_frames own_slot needs in
    let all = reserve_before-can window (behind_lead class slot needs) can in
    let within = within-tail (open_frame (lead_in_item class (slot ∷ []))) opens all.1 in
    more-behind window needs
    (omega (arith, all.0, lead-reserve_before class slot opens))
    (within-fit
    (map own_frame needs) within.0 (fit-own window (own_needed needs) needs (omega arith) within.1))

fits-lead : (window : ℕ) (class : ClassFields) (slot : SlotFields) (needs : List Need)
    → FitsBehind window (area_of class slot false) needs
    → CanBeLaid window (behind_lead class slot needs)
fits-lead window class slot needs fits =
    let opens = open_frames own_slot needs in
    let all = own-from (area_of class slot false) 0 needs fits in
    let least = (own-wanted (area_of class slot false) fits).least
    (area_of class slot false) fits in
    can-reserve_before window (behind_lead class slot needs)
    (area_of class slot false ∷ map (area_by_header own_area_of) needs)
    (lead-chosen class slot opens (map (area_by_header own_area_of) needs) (chosen-own needs))
    (omega (arith, lead-reserve_before class slot opens, least))
    (lead-within class slot opens all.0 all.1)

led-slot : {window : ℕ} {first : Need} {needs : List Need} {slot : SlotFields}
    → IsLeadIn window own_slot (first ∷ needs) (Some slot)
    → IsLeadInSlot window (class_of first.header) (first ∷ needs) slot
unfolding IsLeadIn part_items
led-slot {window} {first} {needs} {slot} alone =
    let class = class_of first.header in
    record {
      chosen = alone.2;
      fits = lead-fits window class slot (first ∷ needs) alone.1;
      least = λ other has fits.
          elim (cases_lt (area_of class other false) (area_of class slot false)) [
            | inl less ↦ grind (arith, fits-lead window class other (first ∷ needs) fits)
            | inr most ↦ most
          ];
    }

never-alone : (window : ℕ) (first : Need) (needs : List Need) (slot : SlotFields)
    → IsLeadIn window own_slot (first ∷ needs) (Some slot) → FitsBehind window 0 (first ∷ needs) → ⊥
unfolding IsLeadIn part_items
never-alone window first needs slot alone fits = alone.0 (none-own window (first ∷ needs) fits)

-- ---- the plan

abbrev OneWay : ℕ → List Need → List Placed → Type 0
OneWay window needs placed = (FitsBehind window 0 needs → AreInOwnSlots needs placed)
    × ((FitsBehind window 0 needs → ⊥) → AreLedInOwnSlots window needs placed)

with-lead : (window : ℕ) (needs : List Need) (lead_in : Option SlotFields) (placed : List Placed)
    → IsLeadIn window own_slot needs lead_in
    → AreItemSlots (part_items own_slot needs lead_in) placed → OneWay window needs placed
unfolding IsLeadIn part_items AreItemSlots AreLedInOwnSlots
with-lead window needs lead_in placed alone for_items =
    grind (arith, own-none, only_one, led-slot, never-alone)

with-leads : {window : ℕ} (needs : List Need) (lead_ins : List (Option SlotFields))
    {placed : List Placed} → AreLeadIns window own_slot (needs ∷ []) lead_ins
    → IsPlanFor window (all_items own_slot (needs ∷ []) lead_ins) placed
    → OneWay window needs placed
unfolding AreLeadIns all_items
with-leads needs lead_ins alone plan = grind (arith, with-lead, append-nil)

-- the plan of frames in their own slots has a lead-in exactly if they want something
pub lead-where-wanted : LeadInWhereWanted
lead-where-wanted = grind (arith, with-leads)
