-- The plan of a splice, which is one part.
use Rattle.std.proofs.Common.{All, ap, append-nil, arith, length, List, refl, subst, ℕ, [], ◌<◌}
use Rattle.std.proofs.{Common.{◌∷◌, ◌≡◌}, lemmas.List.Elements.{All-cons, All-nil}}
use Rattle.frame_header.specs.{Fields.{ClassFields, IsClass}, Tables.{class_of, window_of}}
use Rattle.joined_inputs.specs.Planned.{plan_of_splice_needs}
use Rattle.laying.proofs.{FitLemmas.parts-fit, PartsLemmas.one_class, PlacesLemmas.range-whole}
use Rattle.laying.specs.{Fits.FitsFromReach, NeedsFit.own_choice}
use Rattle.slot_plan.proofs.LeastPlanLemmas.{least-plan-is}
use Rattle.slot_plan.specs.FreeBytes.{FitBehindWindow, FitsBehind}
use Rattle.slot_plan.specs.Laws.{ChoosesInOrder, IsPlanAnswer, PartsChooseInOrder}
use Rattle.slot_plan.specs.Parts.{AreNeedsOfClass, ArePartsFeasible, CanBePlanned, needs_in_parts}
use Rattle.slot_plan.specs.{Parts.window_in, Plans.IsPlan, declared.needs.Need.Need}
use Rattle.slot_plan.specs.declared.needs.Placed.{Placed}

-- ---- one part

class-at-first : {class : ClassFields} (n : Need) (needs : List Need)
    → AreNeedsOfClass class (n ∷ needs) → class_of n.header ≡ class
unfolding AreNeedsOfClass
class-at-first n needs same = same.0

window-is : (class : ClassFields) (needs : List Need) → 0 < length needs
    → AreNeedsOfClass class needs → window_in needs ≡ window_of class.version
window-is class needs some same = grind (arith, class-at-first)

needs-choose : (class : ClassFields) (needs : List Need) → IsClass class
    → AreNeedsOfClass class needs → All (ChoosesInOrder own_choice) needs
unfolding AreNeedsOfClass
needs-choose class [] known same = All-nil (ChoosesInOrder own_choice)
needs-choose class (n ∷ needs) known same =
    grind (arith, All-cons, needs-choose class needs known same.1)

-- if needs of one class fit after a whole window, they fit after the window of this class
pub fits-in : (class : ClassFields) (needs : List Need) → 0 < length needs
    → AreNeedsOfClass class needs → FitBehindWindow needs
    → FitsBehind (window_of class.version) (window_of class.version) needs
fits-in class [] some same fit = absurd (omega (arith, some))
fits-in class (n ∷ needs) some same fit = grind (arith, class-at-first)

module _ (class : ClassFields) (needs : List Need) (known : IsClass class)
    (same : AreNeedsOfClass class needs) (some : 0 < length needs)
    (fits : FitsBehind (window_of class.version) (window_of class.version) needs) where
  abbrev window : ℕ
  window = window_of class.version

  parts-one : needs_in_parts needs (0 ∷ []) ≡ needs ∷ []
  unfolding needs_in_parts
  parts-one = ap (λ (l : List Need). l ∷ []) (range-whole needs)

  feasible : ArePartsFeasible window (needs ∷ [])
  unfolding ArePartsFeasible
  feasible = (fits, tt)

  -- a splice that fits can be planned as one part
  pub can-plan : CanBePlanned needs (0 ∷ [])
  can-plan = grind (arith, one_class, All-cons, All-nil, feasible, window-is, parts-one)

  in-order : PartsChooseInOrder own_choice (needs_in_parts needs (0 ∷ []))
  in-order = grind (arith, parts-one, All-cons, needs-choose, All-nil)

  -- what the planner returns is the plan
  pub plan-is : {placed : List Placed} → IsPlanAnswer own_choice needs (0 ∷ []) placed
      → placed ≡ plan_of_splice_needs window needs
  plan-is is = grind (arith, in-order, window-is, parts-one)

  -- what the planner returns can be written frame by frame
  pub plan-fits : {placed : List Placed} → IsPlanAnswer own_choice needs (0 ∷ []) placed
      → FitsFromReach window 0 needs placed
  plan-fits {placed} is =
      subst (λ (l : List Need). FitsFromReach window 0 l placed) (append-nil needs)
      (parts-fit
      (subst (λ w. IsPlan w own_choice (needs ∷ []) placed) (window-is class needs some same)
      (subst (λ (parts : List (List Need)). IsPlan (window_in needs) own_choice parts placed)
      parts-one is.plan)))

  -- the plan of the definition is the first of all lists of own slots with a layout
  pub splice-planned : IsPlan window own_choice (needs ∷ []) (plan_of_splice_needs window needs)
  splice-planned =
      let OfClass : List Need → Type 0 = λ part. AreNeedsOfClass class part in
      let InOrder : List Need → Type 0 = λ part. All (ChoosesInOrder own_choice) part in
      (least-plan-is class (plan_of_splice_needs window needs)
      (All-cons OfClass needs [] same (All-nil OfClass))
      (All-cons InOrder needs [] (needs-choose class needs known same) (All-nil InOrder))
      feasible).1 refl
