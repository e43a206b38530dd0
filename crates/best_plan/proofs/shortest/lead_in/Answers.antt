-- A lead-in's slots are all slots, and after the largest a whole window is free.
use Rattle.std.proofs.Common.{ap, arith, false, length, refl, rules, subst, sym, ℕ, ◌<◌, ◌∙◌, ◌≡◌}
use Rattle.best_plan.proofs.PlanLemmas.{lead-by, lead-ready, lead-within}
use Rattle.best_plan.proofs.shortest.lead_in.Goals.{After-as_slice-2}
use Rattle.best_plan.specs.Rows.{IsAreaChoice, nothing}
use Rattle.frame_header.specs.Slots.{all_slots}
use Rattle.slot_plan.{proofs.AreaLemmas.{Ascend, lead-ascend}, specs.Parts.slot_areas}
use Rattle.best_plan.proofs.shortest.lead_in.Goals as goal

module _ (c : After-as_slice-2) where
  areas-are : c.as_slice-2.result.now ≡ slot_areas c.args.class false c.as_slice.result.now
  areas-are = grind arith

  -- the best choice of these slots is the best of all slots, and one of them has a sum
  ready : (cost place : ℕ) → IsAreaChoice c.window-room.result 0 0 c.as_slice-2.result.now
      c.args.sums.now cost place
      → IsAreaChoice c.args.window 0 0 (slot_areas c.args.class false all_slots) c.args.sums.now
      cost place × (cost < nothing)
  ready cost place choice = grind (arith, lead-ready, areas-are)

pub best_choice-choice-requires-clause-row : goal.best_choice-choice-requires-clause-row
best_choice-choice-requires-clause-row c = record {
  choices = record {
    narrow = search rules;
    most = search rules;
    few = search rules;
    ascending = subst Ascend (sym (areas-are c))
        (lead-ascend c.args.class (c.as_slice.ensures.value
        ∙ c.slots-slots.ensures.slots) (c.slots-slots.ensures.ascending false));
  };
  width = search rules;
}

pub bounds-as_slice-choice : goal.bounds-as_slice-choice
bounds-as_slice-choice c =
    let is =
    ready (goal.at.bounds-as_slice-choice c).After-as_slice-2 _ _ c.best_choice-choice.ensures in
    omega (
      arith,
      lead-within c.args.class is.0 is.1,
      ap length (c.as_slice-3.ensures.value ∙ c.slots-slots.ensures.slots),
    )

pub returns : goal.returns
returns c =
    let is = ready (goal.at.returns c).After-as_slice-2 _ _ c.best_choice-choice.ensures in
    lead-by c.args.window c.args.class c.args.sums.now c.best_choice-choice.result.sum
    c.best_choice-choice.result.place
    is.0 is.1 (c.as_slice-3.ensures.value ∙ c.slots-slots.ensures.slots)
    c.index-as_slice-choice.is (c.slots-slots.ensures.ascending _) refl refl refl
