-- The plan from a menu, or the first unfit frame, is the value for the first list.
use Rattle.std.proofs.Common.{ap, arith, Bool, cond, Err, false, find, get_or, inl, inr, is_none}
use Rattle.std.proofs.Common.{length, List, map, MatchOption, None, Ok, ok_or, Option, refl, Result}
use Rattle.std.proofs.Common.{Some, subst, suc, sym, take, true, unwrap_or, zero, ℕ, [], ◌+◌, ◌-◌}
use Rattle.std.proofs.{Common.{◌<◌, ◌↔◌, ◌∙◌, ◌∷◌, ◌≡◌, ◌≤◌}, lemmas.Bool.{cases_lt, true≢false}}
use Rattle.std.{proofs.lemmas.List.take_all, specs.{List.range_with_len, Option.option_or}}
use Rattle.frame_header.specs.{Fields.{ClassFields, SlotFields}, Tables.{class_of, window_of}}
use Rattle.rate_plan.specs.Laws.{LeastMenuPlanIsThePlan}
use Rattle.rate_plan.specs.LeastMenuPlan.{is_unfit_frame, least_menu_placement, least_menu_plan}
use Rattle.rate_plan.specs.Menus.{CanBeLaidFromMenu, HasAscendingAreas, IsFirstUnfitFrame, IsMenu}
use Rattle.rate_plan.specs.Menus.{IsMenuPlan, menu_choices, menu_items}
use Rattle.slot_plan.proofs.LeastPlanLemmas.{can-found, found-plan, list-can, never-list}
use Rattle.slot_plan.proofs.LeastPlanLemmas.{none-found, plan-found, some-list}
use Rattle.slot_plan.proofs.OnePlanLemmas.{AreOrdered}
use Rattle.slot_plan.proofs.PartLemmas.{class-take, one-class, window-first}
use Rattle.slot_plan.specs.LeastPlan.{first_list, least_placement}
use Rattle.slot_plan.specs.Lists.{CanBeLaid, IsLeastList, OpenFrame}
use Rattle.slot_plan.specs.Parts.{AreNeedsOfClass, AreNeedsOfOneClass, need_item, window_in}
use Rattle.slot_plan.specs.{Plans.IsPlanFor, declared.needs.{Need.Need, Placed.Placed}}

-- ---- the areas of a menu ascend

ordered-frames : (class : ClassFields) (menu : List SlotFields) (needs : List Need)
    → AreNeedsOfClass class needs → HasAscendingAreas class menu
    → AreOrdered (map (need_item (menu_choices menu)) needs)
unfolding AreNeedsOfClass
ordered-frames class menu [] same ascend = tt
ordered-frames class menu (need ∷ needs) same ascend =
    grind (arith, ordered-frames class menu needs same.1 ascend)

ordered-items : (lead_in : Bool) (class : ClassFields) (menu : List SlotFields) (needs : List Need)
    → AreNeedsOfClass class needs → HasAscendingAreas class menu
    → AreOrdered (menu_items lead_in menu needs)
unfolding menu_items AreNeedsOfClass
ordered-items false class menu needs same ascend = ordered-frames class menu needs same ascend
ordered-items true class menu [] same ascend = tt
ordered-items true class menu (first ∷ needs) same ascend = grind (arith, ordered-frames)

can-of : {window : ℕ} {opens : List OpenFrame} {areas : List ℕ} → IsLeastList window opens areas
    → CanBeLaid window opens
unfolding CanBeLaid
can-of {areas = areas} least = (areas, least.chosen, least.feasible)

-- ---- the numbers of a range

-- no number of a range passes the test, or one is the first that does
first-of : (test : ℕ → Bool) (n from : ℕ) → MatchOption (find test (range_with_len from n))
    ((k : ℕ) → from ≤ k → k < from + n → test k ≡ false) (λ i. (from ≤ i) × (i < from + n)
    × (test i ≡ true) × ((k : ℕ) → from ≤ k → k < i → test k ≡ false))
first-of test zero from = λ k low high. absurd (omega (arith, low, high))
first-of test (suc n) from =
    at (test from) refl (find test (range_with_len (from + 1) n)) (first-of test n (from + 1))
  where
    at : (b : Bool) → test from ≡ b → (found : Option ℕ) → MatchOption found
        ((k : ℕ) → from + 1 ≤ k → k < from + 1 + n → test k ≡ false) (λ i. (from + 1 ≤ i)
        × (i < from + 1 + n) × (test i ≡ true) × ((k : ℕ) → from + 1 ≤ k → k < i → test k ≡ false))
        → MatchOption (cond b (Some from) found)
        ((k : ℕ) → from ≤ k → k < from + suc n → test k ≡ false) (λ i. (from ≤ i)
        × (i < from + suc n) × (test i ≡ true) × ((k : ℕ) → from ≤ k → k < i → test k ≡ false))
    at true is found later =
        (omega arith, omega arith, is, λ k low high. absurd (omega (arith, low, high)))
    at false is None later = λ k low high. elim (cases_lt from k) as (λ _. test k ≡ false) [
      | inl behind ↦ later k (omega (arith, behind)) (omega (arith, high))
      | inr here ↦ let same : from ≡ k = omega (arith, low, here) in ap test (sym same) ∙ is
    ]
    at false is (Some i) later = (
      omega (arith, later.0),
      omega (arith, later.1),
      later.2,
      λ k low high. elim (cases_lt from k) as (λ _. test k ≡ false) [
        | inl behind ↦ later.3 k (omega (arith, behind)) high
        | inr here ↦ let same : from ≡ k = omega (arith, low, here) in ap test (sym same) ∙ is
      ],
    )

-- frames of one class, and a menu whose slots have greater areas in this class one after another
record IsOrderedMenu (class : ClassFields) (menu : List SlotFields)
    (needs : List Need) : Type 0 where
  same : AreNeedsOfClass class needs
  ascend : HasAscendingAreas class menu

module _ (window : ℕ) {class : ClassFields} {menu : List SlotFields} {needs : List Need}
    (ordered : IsOrderedMenu class menu needs) where
  lead-by : (lead_in : Bool) {placed : List Placed}
      → (lead_in ≡ false) ↔ CanBeLaidFromMenu window false menu needs
      → IsPlanFor window (menu_items lead_in menu needs) placed
      → least_menu_placement window menu needs ≡ Some placed
  lead-by false without whole = grind (arith, plan-found, ordered-items)
  lead-by true without whole = grind (arith, none-found, ordered-items, true≢false, plan-found)

  plan-least : {placed : List Placed} → IsMenuPlan window menu needs placed
      → least_menu_plan window menu needs ≡ Ok placed
  unfolding least_menu_plan
  plan-least plan = grind (arith, ok_or, lead-by)

  -- ---- the first unfit frame

  ordered-front : (k : ℕ) → AreOrdered (menu_items true menu (take (k + 1) needs))
  ordered-front k = search (arith, ordered-items, class-take)

  unfit-here : (i : ℕ) → (CanBeLaidFromMenu window true menu (take (i + 1) needs) → ⊥)
      → is_unfit_frame window menu needs i ≡ true
  unfit-here i never = grind (arith, is_none, never-list, ordered-front)

  fit-before : (k : ℕ) → CanBeLaidFromMenu window true menu (take (k + 1) needs)
      → is_unfit_frame window menu needs k ≡ false
  fit-before k can = grind (arith, is_none, some-list, ordered-front)

  -- ---- the converse

  none-can : (lead_in : Bool) → least_placement window (menu_items lead_in menu needs) ≡ None
      → CanBeLaidFromMenu window lead_in menu needs → ⊥
  none-can lead_in none can = grind (arith, can-found, ordered-items)

  found-for : (lead_in : Bool) {placed : List Placed}
      → least_placement window (menu_items lead_in menu needs) ≡ Some placed
      → IsPlanFor window (menu_items lead_in menu needs) placed
  found-for lead_in found = search (arith, found-plan, ordered-items)

  least-by : {placed : List Placed} (i : ℕ) (without behind : Option (List Placed))
      → least_placement window (menu_items false menu needs) ≡ without
      → least_placement window (menu_items true menu needs) ≡ behind
      → ok_or (option_or without behind) i ≡ Ok placed → IsMenuPlan window menu needs placed
  least-by {placed} i (Some made) behind first second is =
      let plan = found-for false (first ∙ ap (λ (r : Result (List Placed) ℕ).
      elim r as (λ _. Option (List Placed)) [ Ok p ↦ Some p | Err j ↦ Some made ]) is) in
      record {
        lead_in = false;
        without = (
          (λ _. can-of plan.least),
          (λ _. refl),
        );
        whole = plan;
      }
  least-by {placed} i None (Some made) first second is = record {
    lead_in = true;
    without = ((λ e. absurd (true≢false e)), (λ can. absurd (none-can false first can)));
    whole = found-for true (second ∙ ap (λ (r : Result (List Placed) ℕ).
        elim r as (λ _. Option (List Placed)) [ Ok p ↦ Some p | Err j ↦ Some made ]) is);
  }
  least-by i None None first second is = absurd cc

  least-plan : {placed : List Placed} → least_menu_plan window menu needs ≡ Ok placed
      → IsMenuPlan window menu needs placed
  unfolding least_menu_plan
  least-plan is = grind (arith, least-by)

  unfit-none : {i : ℕ} (without behind : Option (List Placed)) {first : ℕ}
      → ok_or (option_or without behind) first ≡ Err i
      → (without ≡ None) × (behind ≡ None) × (first ≡ i)
  unfit-none (Some made) behind is = absurd cc
  unfit-none None (Some made) is = absurd cc
  unfit-none None None is = grind arith

  front-can : (k : ℕ) → is_unfit_frame window menu needs k ≡ false
      → CanBeLaidFromMenu window true menu (take (k + 1) needs)
  front-can k fit = at (first_list window (menu_items true menu (take (k + 1) needs))) refl fit
    where
      at : (found : Option (List SlotFields))
          → first_list window (menu_items true menu (take (k + 1) needs)) ≡ found
          → is_none found ≡ false → CanBeLaidFromMenu window true menu (take (k + 1) needs)
      at None is fit = absurd (true≢false fit)
      at (Some slots) is fit =
          list-can window (menu_items true menu (take (k + 1) needs)) (ordered-front k) is

  front-never : (k : ℕ) → is_unfit_frame window menu needs k ≡ true
      → CanBeLaidFromMenu window true menu (take (k + 1) needs) → ⊥
  front-never k unfit can = true≢false (sym unfit ∙ fit-before k can)

  least-unfit : {i : ℕ} → 1 ≤ length needs → least_menu_plan window menu needs ≡ Err i
      → IsFirstUnfitFrame window menu needs i
  unfolding least_menu_plan
  least-unfit {i} some is =
      let none = unfit-none (least_placement window (menu_items false menu needs))
      (least_placement window (menu_items true menu needs)) is in
      let last : length needs ≤ length needs - 1 + 1 = omega (arith, some) in
      let whole : is_unfit_frame window menu needs (length needs - 1) ≡ true =
      unfit-here (length needs - 1) (λ can. none-can true none.1 (subst
      (λ l. CanBeLaidFromMenu window true menu l)
      (take_all (length needs - 1 + 1) needs last) can)) in
      at whole
      none.0 none.1 (find (is_unfit_frame window menu needs) (range_with_len 0 (length needs)))
      (first-of (is_unfit_frame window menu needs) (length needs) 0) none.2
    where
      at : is_unfit_frame window menu needs (length needs - 1) ≡ true
          → least_placement window (menu_items false menu needs) ≡ None
          → least_placement window (menu_items true menu needs) ≡ None → (found : Option ℕ)
          → MatchOption found
          ((k : ℕ) → 0 ≤ k → k < 0 + length needs → is_unfit_frame window menu needs k
          ≡ false)
          (λ j. (0 ≤ j) × (j < 0 + length needs) × (is_unfit_frame window menu needs j ≡ true)
          × ((k : ℕ) → 0 ≤ k → k < j → is_unfit_frame window menu needs k ≡ false))
          → unwrap_or found 0 ≡ i → IsFirstUnfitFrame window menu needs i
      at whole without behind None fits here = absurd
          (true≢false (sym whole ∙ fits (length needs - 1) (omega arith) (omega (arith, some))))
      at whole without behind (Some j) first here =
          subst (IsFirstUnfitFrame window menu needs) here (record {
            never = λ lead_in. elim lead_in as (λ b. CanBeLaidFromMenu window b menu needs
                → ⊥) [ true ↦ none-can true behind | false ↦ none-can false without ];
            within = omega (arith, first.1);
            here = front-never j first.2;
            before = λ k less. front-can k (first.3 k (omega arith) less);
          })

  -- there is at most one first unfit frame
  one-unfit : {i j : ℕ} → IsFirstUnfitFrame window menu needs i
      → IsFirstUnfitFrame window menu needs j → i ≡ j
  one-unfit first second = grind (arith, cases_lt)

  unfit-least : {i : ℕ} → IsFirstUnfitFrame window menu needs i
      → least_menu_plan window menu needs ≡ Err i
  unfit-least {i} unfit = at (least_menu_plan window menu needs) refl
    where
      at : (answer : Result (List Placed) ℕ) → least_menu_plan window menu needs ≡ answer
          → answer ≡ Err i
      at (Ok placed) is =
          let plan = least-plan is in
          absurd
          (unfit.never plan.lead_in (can-of plan.whole.least))
      at (Err j) is =
          ap (λ n. Err n) (one-unfit (least-unfit (omega (arith, unfit.within)) is) unfit)

-- a plan from a menu, or the first unfit frame, is what the first of all lists gives
pub least_menu_plan-is : LeastMenuPlanIsThePlan
least_menu_plan-is window class menu needs same some ascend listed =
    let ordered : IsOrderedMenu class menu needs = record { same = same; ascend = ascend } in (
      λ placed. (plan-least window ordered, least-plan window ordered),
      λ i. (unfit-least window ordered, least-unfit window ordered some),
    )

-- a menu of frames ascends in the class of the first
menu-ascends : {class : ClassFields} (menu : List SlotFields) (needs : List Need) (d : Need)
    → class ≡ class_of (get_or needs 0 d).header → 1 ≤ length needs → IsMenu menu needs
    → HasAscendingAreas class menu
menu-ascends menu [] d same some ascend = absurd (omega (arith, some))
menu-ascends menu (first ∷ needs) d same some ascend =
    subst (λ c. HasAscendingAreas c menu) (sym same) ascend

-- what the planner returns, whose class is the class of the first frame
module _ {class : ClassFields} (menu : List SlotFields) (needs : List Need) (d : Need)
    (all : AreNeedsOfOneClass needs) (some : 1 ≤ length needs)
    (is : class ≡ class_of (get_or needs 0 d).header) (is_menu : IsMenu menu needs) where
  window-is : window_of class.version ≡ window_in needs
  window-is = window-first needs d all some is refl

  ordered-first : IsOrderedMenu class menu needs
  ordered-first = record {
    same = one-class needs d all is;
    ascend = menu-ascends menu needs d is some is_menu;
  }

  -- a plan is what the first of all lists gives
  pub plan-answered : {placed : List Placed}
      → IsMenuPlan (window_of class.version) menu needs placed
      → least_menu_plan (window_in needs) menu needs ≡ Ok placed
  plan-answered {placed} plan =
      subst (λ w. least_menu_plan w menu needs ≡ Ok placed) window-is
      (plan-least (window_of class.version) ordered-first plan)

  -- if there is no list, the value is the first unfit frame
  pub unfit-answered : {i : ℕ} → IsFirstUnfitFrame (window_of class.version) menu needs i
      → least_menu_plan (window_in needs) menu needs ≡ Err i
  unfit-answered {i} unfit =
      subst (λ w. least_menu_plan w menu needs ≡ Err i) window-is
      (unfit-least (window_of class.version) ordered-first unfit)
