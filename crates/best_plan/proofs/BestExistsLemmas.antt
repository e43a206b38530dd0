-- If a part has a plan, it has a best plan.
use Rattle.std.proofs.Common.{ap, ap₂, false, inl, inr, List, map, None, Option, refl, Some, subst}
use Rattle.std.proofs.Common.{true, ℕ, [], ◌∷◌, ◌≡◌, ◌⊎◌}
use Rattle.best_plan.proofs.BestOfLemmas.{none-laid}
use Rattle.best_plan.proofs.ShortestListLemmas.{same-frames, whole-one, widened}
use Rattle.best_plan.specs.Best.{items_with_lead_in}
use Rattle.best_plan.specs.BestOf.{best_placement, best_plan_of, first_plan_of_two}
use Rattle.best_plan.specs.Laws.{BestExists}
use Rattle.frame_header.specs.{Fields.{HeaderFields, SlotFields}, Tables.class_of}
use Rattle.slot_plan.specs.{Layouts.HasLayout, Lists.CanBeLaid}
use Rattle.slot_plan.specs.Parts.{all_items, AreLeadIns, IsLeadIn, lead_in_item, need_item}
use Rattle.slot_plan.specs.{Parts.{open_frame, part_items}, Plans.{IsPlanFor, item_areas}}
use Rattle.slot_plan.specs.declared.needs.{Need.Need, Placed.Placed}

module _ (window : ℕ) (choices : HeaderFields → List SlotFields) (needs : List Need) where
  abbrev Best : Type 0
  Best = (best : List Placed) × (best_plan_of window choices needs ≡ Some best)

  abbrev CanBe : Type 0
  CanBe = CanBeLaid window (map open_frame (items_with_lead_in false choices needs))
      ⊎ CanBeLaid window (map open_frame (items_with_lead_in true choices needs))

  none : CanBe → best_placement window (items_with_lead_in false choices needs) ≡ None
      → best_placement window (items_with_lead_in true choices needs) ≡ None → ⊥
  none (inl can) without behind =
      none-laid window (items_with_lead_in false choices needs) without can
  none (inr can) without behind =
      none-laid window (items_with_lead_in true choices needs) behind can

  found : CanBe → (a b : Option (List Placed))
      → best_placement window (items_with_lead_in false choices needs)
      ≡ a → best_placement window (items_with_lead_in true choices needs) ≡ b → Best
  found can (Some best) b without behind = (
    best,
    ap (λ o. first_plan_of_two o
        (best_placement window (items_with_lead_in true choices needs))) without,
  )
  found can None (Some best) without behind = (best, ap₂ first_plan_of_two without behind)
  found can None None without behind = absurd (none can without behind)

by-lead : {window : ℕ} (choices : HeaderFields → List SlotFields) (needs : List Need)
    (lead_in : Option SlotFields) {placed : List Placed} → IsLeadIn window choices needs lead_in
    → IsPlanFor window (part_items choices needs lead_in) placed → CanBe window choices needs
unfolding IsLeadIn part_items items_with_lead_in CanBeLaid
by-lead choices needs None {placed} alone plan =
    inl (item_areas (map (need_item choices) needs) placed, plan.least.chosen, plan.least.feasible)
by-lead choices [] (Some slot) alone plan = absurd alone
by-lead {window} choices (first ∷ needs) (Some slot) {placed} alone plan =
    let areas : List ℕ = item_areas (lead_in_item (class_of first.header) (slot ∷ [])
    ∷ map (need_item choices) (first ∷ needs)) placed in
    inr (
      areas,
      widened choices first needs slot areas alone.2 plan.least.chosen,
      subst (HasLayout window 0) (same-frames choices first needs slot areas) plan.least.feasible,
    )

by-leads : {window : ℕ} (choices : HeaderFields → List SlotFields) (needs : List Need)
    (lead_ins : List (Option SlotFields)) {placed : List Placed}
    → AreLeadIns window choices (needs ∷ []) lead_ins
    → IsPlanFor window (all_items choices (needs ∷ []) lead_ins) placed → CanBe window choices needs
unfolding AreLeadIns
by-leads choices needs [] alone plan = absurd alone
by-leads choices needs (lead_in ∷ other ∷ lead_ins) alone plan = absurd alone.1
by-leads {window} choices needs (lead_in ∷ []) {placed} alone plan =
    by-lead choices needs lead_in
    alone.0 (subst (λ l. IsPlanFor window l placed) (whole-one choices needs lead_in) plan)

-- if a part has a plan, it has a best plan
pub best-exists : BestExists
best-exists = λ window choices needs placed plan.
    found window choices needs
    (by-leads choices needs plan.lead_ins plan.alone plan.whole)
    (best_placement window
    (items_with_lead_in false choices needs))
    (best_placement window (items_with_lead_in true choices needs)) refl refl
