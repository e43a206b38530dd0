-- What is placed from a menu is the plan.
use Rattle.std.proofs.Common.{arith, false, List, map, None, Option, refl, Some, subst, sym, true}
use Rattle.std.proofs.{Common.{ℕ, [], ◌++◌, ◌∙◌, ◌∷◌, ◌≡◌}, lemmas.Bool.true≢false}
use Rattle.std.proofs.lemmas.List.{append-nil}
use Rattle.frame_header.specs.Fields.{ClassFields, SlotFields}
use Rattle.rate_plan.specs.Menus.{IsMenuPlan, menu_choices, menu_items}
use Rattle.slot_plan.proofs.{AreaLemmas.only_one, PlacedLemmas.plan-placed}
use Rattle.slot_plan.proofs.ReserveLemmas.{reserve_before-can}
use Rattle.slot_plan.specs.Parts.{lead_in_item, need_item, open_frame, part_items, PlanItem}
use Rattle.slot_plan.specs.Reserve.{AreItemsPlaced, IsLeastSlot, IsPlacedLeadIn, PlacesMore}
use Rattle.slot_plan.specs.{Reserve.{PlacesPart, reserve_before}, declared.needs.Need.Need}
use Rattle.slot_plan.specs.declared.needs.Placed.{Placed}

nothing-placed : (window free : ℕ) → AreItemsPlaced window free [] []
unfolding AreItemsPlaced
nothing-placed window free = tt

nothing : reserve_before [] ≡ 0
unfolding reserve_before
nothing = refl

-- frames that were placed after nothing are all that is placed
places-all : {window after : ℕ} {items : List PlanItem} {new : List Placed}
    → PlacesMore window 0 after items [] [] new → AreItemsPlaced window 0 items new
places-all {window} {after} {items} {new} on =
    let all = on.goes [] [] nothing (nothing-placed window after) in
    let more : on.more ++ [] ≡ new = append-nil on.more ∙ sym on.appended in
    subst (AreItemsPlaced window 0 items) more
    (subst (λ l. AreItemsPlaced window 0 l (on.more ++ [])) (append-nil items) all)

-- a part placed after the least slot of a menu as a lead-in is placed after a lead-in of the menu
lead-among : (window : ℕ) {class : ClassFields} {menu : List SlotFields} {slot : SlotFields}
    (items : List PlanItem) (placed : List Placed)
    → IsLeastSlot (reserve_before (map open_frame items)) class false menu slot
    → AreItemsPlaced window 0 (lead_in_item class (slot ∷ []) ∷ items) placed
    → AreItemsPlaced window 0 (lead_in_item class menu ∷ items) placed
unfolding AreItemsPlaced
lead-among window items [] least all = absurd all
lead-among window items (p ∷ placed) least all = grind (arith, only_one)

menu-placed : {window : ℕ} {menu : List SlotFields} (needs : List Need)
    (lead_in : Option SlotFields) {placed : List Placed}
    → IsPlacedLeadIn window menu (menu_choices menu) needs lead_in
    → AreItemsPlaced window 0 (part_items (menu_choices menu) needs lead_in) placed
    → IsMenuPlan window menu needs placed
unfolding IsPlacedLeadIn part_items menu_items
menu-placed {window} {menu} needs None {placed} can all = grind (arith, plan-placed all)
menu-placed [] (Some slot) is all = absurd is
menu-placed {window} {menu} (first ∷ needs) (Some slot) {placed} is all =
    let items : List PlanItem = map (need_item (menu_choices menu)) (first ∷ needs) in
    record {
      lead_in = true;
      without = (
        (λ e. absurd (true≢false e)),
        (λ can.
            absurd (omega (arith, is.0, (reserve_before-can window (map open_frame items) can).0))),
      );
      whole = plan-placed
          (lead-among window items placed is.2 all);
    }

-- a part that is placed by what is needed after each frame is its plan from the menu
pub menu-part : {window : ℕ} {menu : List SlotFields} {needs : List Need} {after : ℕ}
    {old new : List Placed} → old ≡ []
    → PlacesPart window menu (menu_choices menu) needs 0 after old new
    → IsMenuPlan window menu needs new
menu-part {window} {menu} {needs} {after} {new = new} none part =
    let places = subst (λ l. PlacesMore window 0 after
    (part_items (menu_choices menu) needs part.lead_in) [] l new) none part.places in
    menu-placed needs part.lead_in
    part.least (places-all places)
