-- The places of items in the slots of the frames: those of frames in
-- their own slots, of a part that joins, and of one behind its lead-in.
use Rattle.std.proofs.Common.{ap, arith, inl, inr, length, List, map, None, Option, option_to_list}
use Rattle.std.proofs.Common.{refl, Some, subst, sym, ℕ, [], ◌++◌, ◌∷◌, ◌≡◌, ◌≤◌, ◌⊎◌}
use Rattle.std.proofs.lemmas.Bool.{and_from, and_parts, le-leb, leb-true}
use Rattle.std.specs.Prelude.{option_map, ◌&&◌}
use Rattle.frame_header.specs.Fields.{ClassFields, HeaderFields, IsClass, SlotFields}
use Rattle.frame_header.specs.{Slots.all_slots, Tables.window_of}
use Rattle.laying.specs.NeedsFit.{own_choice}
use Rattle.remove_edits.specs.Removed.{item_places, place_as}
use Rattle.remove_laws.specs.SlotLaws.{AreJoinedPlaces, AreLedPlaces, AreOwnPlaces, FitInNoSlot}
use Rattle.seam_plan.proofs.FitLemmas.{fits-tested}
use Rattle.seam_plan.proofs.PartJointLemmas.{joined_in, splice_part_items-is}
use Rattle.seam_plan.proofs.PartSpliceLemmas.{has-lead-in, none-passes}
use Rattle.seam_plan.proofs.SpliceFitLemmas.{found-passes}
use Rattle.seam_plan.specs.Joins.{fits_behind, is_area_no_less, join_slot}
use Rattle.seam_plan.specs.PartSplices.{frame_item, IsPartNeeds, item_needs, lead_in_splice_item}
use Rattle.seam_plan.specs.PartSplices.{splice_part_items, SpliceItem}
use Rattle.slot_plan.{proofs.AreaLemmas.only_one, specs.FreeBytes.need_in_slot}
use Rattle.slot_plan.specs.{Parts.{need_item, own_slot_area, PlanItem}, Plans.AreItemSlots}
use Rattle.slot_plan.specs.declared.needs.{Need.Need, Placed.Placed}

-- ---- places in two parts

-- the places of items, those of some first and then those of others
pub record AreInTwo (xs ys : List PlanItem) (placed : List Placed) : Type 0 where
  pub first : List Placed
  pub second : List Placed
  pub are : placed ≡ first ++ second
  pub long : length first ≡ length xs
  pub firsts : AreItemSlots xs first
  pub seconds : AreItemSlots ys second

-- the places of two lists of items are two lists of places
pub in-two : (xs : List PlanItem) {ys : List PlanItem} (placed : List Placed)
    → AreItemSlots (xs ++ ys) placed → AreInTwo xs ys placed
unfolding AreItemSlots
in-two [] placed are = record {
  first = [];
  second = placed;
  are = refl;
  long = refl;
  firsts = tt;
  seconds = are;
}
in-two (x ∷ xs) [] are = absurd are
in-two (x ∷ xs) {ys} (p ∷ placed) are =
    let rest = in-two xs placed are.2 in
    record {
      first = p ∷ rest.first;
      second = rest.second;
      are = ap (λ l. p ∷ l) rest.are;
      long = omega (arith, rest.long);
      firsts = (are.0, are.1, rest.firsts);
      seconds = rest.seconds;
    }

-- two lists of items mark two lists of places
pub marks-append : (xs ys : List SpliceItem) (first second : List Placed)
    → length first ≡ length xs
    → item_places (xs ++ ys) (first ++ second) ≡ item_places xs first ++ item_places ys second
unfolding item_places
marks-append [] ys [] second long = refl
marks-append [] ys (p ∷ first) second long = absurd (omega (arith, long))
marks-append (x ∷ xs) ys [] second long = absurd (omega (arith, long))
marks-append (x ∷ xs) ys (p ∷ first) second long =
    ap (λ l. place_as x.lead_in p ∷ l) (marks-append xs ys first second (omega (arith, long)))

-- ---- frames in their own slots

-- frames that keep their slots have the places of such frames
pub own-marked : (needs : List Need) (placed : List Placed)
    → AreItemSlots (map (need_item own_choice) (item_needs (map frame_item needs))) placed
    → AreOwnPlaces needs (item_places (map frame_item needs) placed)
unfolding AreItemSlots item_places
own-marked [] [] are = tt
own-marked [] (p ∷ placed) are = absurd are
own-marked (n ∷ needs) [] are = absurd are
own-marked (n ∷ needs) (p ∷ placed) are =
    (are.0, sym (only_one are.1), own-marked needs placed are.2)

-- ---- one part

module _ (window : ℕ) (splice : List Need) (first : Need) (needs : List Need) where
  joined-marked : {slot : SlotFields} (placed : List Placed)
      → join_slot window splice first needs ≡ Some slot
      → AreItemSlots (map (need_item own_choice)
      (item_needs (map frame_item (need_in_slot slot first ∷ needs)))) placed
      → AreJoinedPlaces (first ∷ needs)
      (item_places (map frame_item (need_in_slot slot first ∷ needs)) placed)
  unfolding AreItemSlots item_places
  joined-marked [] is are = absurd are
  joined-marked {slot} (p ∷ placed) is are =
      let found = found-passes (λ s. is_area_no_less first s
      && fits_behind window window (splice ++ need_in_slot s first ∷ needs)) all_slots is in
      let same : slot ≡ p.slot = only_one are.1 in
      let more : own_slot_area first ≤ own_slot_area (need_in_slot slot first) =
      leb-true (own_slot_area first) (own_slot_area (need_in_slot slot first))
      (and_parts (is_area_no_less first slot)
      (fits_behind window window (splice ++ need_in_slot slot first ∷ needs)) found.0).0 in (
        are.0,
        subst (λ s. own_slot_area first ≤ own_slot_area (need_in_slot s first)) same more,
        own-marked needs placed are.2,
      )

  in-none : join_slot window splice first needs ≡ None → FitInNoSlot window splice (first ∷ needs)
  in-none none slot has more fits =
      let all : List Need = splice ++ need_in_slot slot first ∷ needs in
      let passes = and_from (is_area_no_less first slot) (fits_behind window window all)
      (le-leb (own_slot_area first) (own_slot_area (need_in_slot slot first)) more)
      ((fits-tested window window all).1 fits) in
      let fails = none-passes (λ s. is_area_no_less first s
      && fits_behind window window (splice ++ need_in_slot s first ∷ needs)) all_slots none has in
      absurd cc

  led-marked : (header : HeaderFields) (placed : List Placed)
      → join_slot window splice first needs ≡ None
      → AreItemSlots (map (need_item own_choice)
      (item_needs (lead_in_splice_item header ∷ map frame_item (first ∷ needs)))) placed
      → AreLedPlaces window splice (first ∷ needs)
      (item_places (lead_in_splice_item header ∷ map frame_item (first ∷ needs)) placed)
  unfolding AreItemSlots item_places
  led-marked header [] none are = absurd are
  led-marked header (p ∷ placed) none are =
      (refl, in-none none, own-marked (first ∷ needs) placed are.2)

-- the places of a part behind a splice are those of frames
-- that join it, or of frames behind a lead-in which can't
pub part-marked : {class : ClassFields} (splice needs : List Need) (placed : List Placed)
    → IsClass class → IsPartNeeds class needs →
    let items = splice_part_items (window_of class.version) splice needs in
    AreItemSlots (map (need_item own_choice) (item_needs items)) placed
    → AreJoinedPlaces needs (item_places items placed)
    ⊎ AreLedPlaces (window_of class.version) splice needs (item_places items placed)
part-marked splice [] placed known part are = absurd (omega (arith, part.some))
part-marked {class} splice (first ∷ needs) placed known part are =
    subst Stands (sym (splice_part_items-is window splice first needs))
    (at (join_slot window splice first needs) refl)
    are
  where
    window : ℕ
    window = window_of class.version

    Stands : List SpliceItem → Type 0
    Stands items = AreItemSlots (map (need_item own_choice) (item_needs items)) placed
        → AreJoinedPlaces (first ∷ needs) (item_places items placed)
        ⊎ AreLedPlaces window splice (first ∷ needs) (item_places items placed)

    at : (o : Option SlotFields) → join_slot window splice first needs ≡ o
        → Stands (joined_in window first needs o)
    at None is =
        let lead = has-lead-in known part in
        subst (λ o. Stands (option_to_list (option_map lead_in_splice_item o)
        ++ map frame_item (first ∷ needs)))
        (sym lead.is)
        (λ slots. inr (led-marked window splice first needs lead.header placed is slots))
    at (Some slot) is = λ slots. inl (joined-marked window splice first needs placed is slots)
