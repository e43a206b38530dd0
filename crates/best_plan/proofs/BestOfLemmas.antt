-- The best plan is the value of the function.
use Rattle.std.proofs.Common.{ap, arith, Bool, cond, Contains, false, filter, flat_map, inl, inr}
use Rattle.std.proofs.Common.{List, ltb, map, None, Option, refl, Some, subst, suc, sum, sym, true}
use Rattle.std.proofs.Common.{zero, ℕ, [], ◌&&◌, ◌++◌, ◌<◌, ◌==◌, ◌||◌, ◌↔◌, ◌∙◌, ◌∷◌, ◌≡◌, ◌≤◌}
use Rattle.std.proofs.Common.{◌⊎◌}
use Rattle.std.proofs.lemmas.Bool.{and_parts, eqb-false, eqb-true, ltb-false, ltb-true, or_cases}
use Rattle.std.proofs.lemmas.List.{append-nil}
use Rattle.best_plan.specs.Best.{IsBestPlan, IsBestPlanFor, items_with_lead_in}
use Rattle.best_plan.specs.BestOf.{best_placement, best_plan_of, better_plan, cheapest_plan}
use Rattle.best_plan.specs.BestOf.{comes_before, cost_of, first_plan_of_two, plans_of}
use Rattle.best_plan.specs.Laws.{BestPlanIsCheapest}
use Rattle.frame_header.specs.{Fields.{HeaderFields, SlotFields}, Tables.class_of}
use Rattle.slot_plan.proofs.AreaLemmas.{Contains-area}
use Rattle.slot_plan.proofs.LeastPlanLemmas.{AreOf, chosen-of, feasible-slots, laid-early}
use Rattle.slot_plan.proofs.LeastPlanLemmas.{slots-feasible}
use Rattle.slot_plan.proofs.OnePlanLemmas.{all_in_order, AreOrdered, equal_lists, one_placed}
use Rattle.slot_plan.proofs.OnePlanLemmas.{ordered_whole, slots_ascend}
use Rattle.slot_plan.specs.{Laws.PartsChooseInOrder, Layouts.{begins_of, has_layout, HasLayout}}
use Rattle.slot_plan.specs.LeastPlan.{all_lists, earliest_placement, frames_in_slots}
use Rattle.slot_plan.specs.Lists.{AreChosenAreas, CanBeLaid, frames_with_areas, IsNotBehind}
use Rattle.slot_plan.specs.Parts.{all_items, need_item, open_frame, part_items, PlanItem}
use Rattle.slot_plan.specs.{Plans.{AreItemSlots, item_areas}, declared.needs.Need.Need}
use Rattle.slot_plan.specs.declared.needs.Placed.{Placed}

-- ---- which lists there are

abbrev Among : {X : Type 0} → List X → X → Type 0
Among [] x = ⊥
Among (y ∷ ys) x = (y ≡ x) ⊎ Among ys x

among-front : {X : Type 0} (xs ys : List X) (x : X) → Among xs x → Among (xs ++ ys) x
among-front [] ys x has = absurd has
among-front (z ∷ xs) ys x (inl here) = inl here
among-front (z ∷ xs) ys x (inr has) = inr (among-front xs ys x has)

among-back : {X : Type 0} (xs ys : List X) (x : X) → Among ys x → Among (xs ++ ys) x
among-back [] ys x has = has
among-back (z ∷ xs) ys x has = inr (among-back xs ys x has)

among-either : {X : Type 0} (xs ys : List X) (x : X) → Among (xs ++ ys) x → Among xs x ⊎ Among ys x
among-either [] ys x has = inr has
among-either (z ∷ xs) ys x (inl here) = inl (inl here)
among-either (z ∷ xs) ys x (inr has) =
    elim (among-either xs ys x has) as (λ _. Among (z ∷ xs) x ⊎ Among ys x) [
      | inl front ↦ inl (inr front)
      | inr back ↦ inr back
    ]

among-map : {X Y : Type 0} (f : X → Y) (xs : List X) (x : X) → Among xs x → Among (map f xs) (f x)
among-map f [] x has = absurd has
among-map f (z ∷ xs) x (inl here) = inl (ap f here)
among-map f (z ∷ xs) x (inr has) = inr (among-map f xs x has)

from-map : {X Y : Type 0} {f : X → Y} (xs : List X) {y : Y} → Among (map f xs) y
    → (x : X) × Among xs x × (f x ≡ y)
from-map [] has = absurd has
from-map (z ∷ xs) (inl here) = (z, inl refl, here)
from-map {f = f} (z ∷ xs) {y} (inr has) = let rest = from-map xs has in
    (rest.0, inr rest.1, rest.2)

among-filter : {X : Type 0} (test : X → Bool) (xs : List X) {x : X} → Among xs x → test x ≡ true
    → Among (filter test xs) x
among-filter test [] has passes = absurd has
among-filter test (z ∷ xs) {x} has passes =
    at (test z) refl has (λ later. among-filter test xs later passes)
  where
    at : (b : Bool) → test z ≡ b → Among (z ∷ xs) x → (Among xs x → Among (filter test xs) x)
        → Among (cond b (z ∷ filter test xs) (filter test xs)) x
    at true is (inl here) on = inl here
    at true is (inr later) on = inr (on later)
    at false is (inl here) on = let both : true ≡ false = sym passes ∙ ap test (sym here) ∙ is in
        absurd cc
    at false is (inr later) on = on later

from-filter : {X : Type 0} (test : X → Bool) (xs : List X) {x : X} → Among (filter test xs) x
    → Among xs x × (test x ≡ true)
from-filter test [] has = absurd has
from-filter test (z ∷ xs) {x} has = at (test z) refl has (λ later. from-filter test xs later)
  where
    at : (b : Bool) → test z ≡ b → Among (cond b (z ∷ filter test xs) (filter test xs)) x
        → (Among (filter test xs) x → Among xs x × (test x ≡ true))
        → Among (z ∷ xs) x × (test x ≡ true)
    at true is (inl here) on = (inl here, ap test (sym here) ∙ is)
    at true is (inr later) on = let rest = on later in (inr rest.0, rest.1)
    at false is later on = let rest = on later in (inr rest.0, rest.1)

-- ---- all lists of slots

abbrev after_slot : List PlanItem → SlotFields → List (List SlotFields)
after_slot items slot = map (λ slots. slot ∷ slots) (all_lists items)

among-choices : (items : List PlanItem) (choices : List SlotFields) {slot : SlotFields}
    (slots : List SlotFields) → Contains choices slot → Among (all_lists items) slots
    → Among (flat_map (after_slot items) choices) (slot ∷ slots)
among-choices items [] slots has rest = absurd (omega (arith, has.1))
among-choices items (s ∷ choices) {slot} slots (zero, within, at) rest =
    among-front (after_slot items s) (flat_map (after_slot items) choices) (slot ∷ slots)
    (subst (λ t. Among (after_slot items t) (slot ∷ slots)) (sym at)
    (among-map (λ slots. slot ∷ slots) (all_lists items) slots rest))
among-choices items (s ∷ choices) {slot} slots (suc k, within, at) rest =
    among-back (after_slot items s) (flat_map (after_slot items) choices) (slot ∷ slots)
    (among-choices items choices slots (k, omega (arith, within), at) rest)

among-lists : (items : List PlanItem) (slots : List SlotFields) → AreOf items slots
    → Among (all_lists items) slots
unfolding AreOf all_lists
among-lists [] [] of = inl refl
among-lists (item ∷ items) (slot ∷ slots) of =
    among-choices items item.choices slots of.0 (among-lists items slots of.1)
among-lists _ _ of = absurd of

from-choices : (items : List PlanItem) (choices : List SlotFields) {list : List SlotFields}
    → Among (flat_map (after_slot items) choices) list
    → (slot : SlotFields) × (slots : List SlotFields) × Contains choices slot
    × Among (all_lists items) slots × (slot ∷ slots ≡ list)
from-choices items [] has = absurd has
from-choices items (s ∷ choices) {list} has =
    elim (among-either (after_slot items s) (flat_map (after_slot items) choices) list has)
    as (λ _. (slot : SlotFields) × (slots : List SlotFields) × Contains (s ∷ choices) slot
    × Among (all_lists items) slots × (slot ∷ slots ≡ list)) [
      | inl front ↦ grind (arith, from-map)
      | inr back ↦ let rest = from-choices items choices back in let has = rest.2 in
          (rest.0, rest.1, (suc has.0, omega (arith, has.1), has.2), rest.3, rest.4)
    ]

from-lists : (items : List PlanItem) (slots : List SlotFields) → Among (all_lists items) slots
    → AreOf items slots
unfolding AreOf all_lists
from-lists [] slots (inl here) = subst (AreOf []) here tt
from-lists [] slots (inr has) = absurd has
from-lists (item ∷ items) slots has =
    let found = from-choices items item.choices has in
    subst (AreOf (item ∷ items)) found.4 (found.2, from-lists items found.1 found.3)

-- ---- the plans that are made of the lists

-- what each of these plans is
record IsLaid (window : ℕ) (items : List PlanItem) (placed : List Placed) : Type 0 where
  slots : AreItemSlots items placed
  feasible : HasLayout window 0 (frames_with_areas (map open_frame items) (item_areas items placed))
  begins : map (λ (p : Placed). p.begin) placed
      ≡ begins_of window 0 0 (frames_with_areas (map open_frame items) (item_areas items placed))

module _ (window : ℕ) (items : List PlanItem) where
  abbrev passing : List SlotFields → Bool
  passing slots = has_layout window 0 0 (frames_in_slots items slots)

  from-plans : {placed : List Placed} → Among (plans_of window items) placed
      → IsLaid window items placed
  from-plans {placed} has =
      let found =
      from-map (filter passing (all_lists items)) has in
      let passed = from-filter passing (all_lists items) found.1 in
      let laid = laid-early window items found.0 (from-lists items found.0 passed.0) in
      subst (IsLaid window items) found.2 (record {
        slots = laid.0;
        feasible = grind (arith, slots-feasible);
        begins = laid.2;
      })

  -- one of the plans has these areas
  with-areas : {areas : List ℕ} → AreChosenAreas (map open_frame items) areas
      → HasLayout window 0 (frames_with_areas (map open_frame items) areas) → (placed : List Placed)
      × Among (plans_of window items) placed × (item_areas items placed ≡ areas)
  with-areas {areas} chosen feasible =
      let of = chosen-of items areas chosen in
      let passes = feasible-slots window items of.0
      (subst (λ l. HasLayout window 0 (frames_with_areas (map open_frame items) l))
      (sym of.2) feasible) in
      let has = among-map (earliest_placement window items) (filter passing (all_lists items))
      of.0 (among-filter passing (all_lists items) (among-lists items of.0 of.1) passes) in
      (earliest_placement window items of.0, has, (laid-early window items of.0 of.1).1 ∙ of.2)

-- ---- the plan that costs least

-- a list before which another doesn't come doesn't come after the other
before-not_behind : (ms ns : List ℕ) → comes_before ns ms ≡ false → IsNotBehind ms ns
unfolding comes_before IsNotBehind
before-not_behind [] [] is = tt
before-not_behind [] (n ∷ ns) is = tt
before-not_behind (m ∷ ms) [] is = absurd cc
before-not_behind (m ∷ ms) (n ∷ ns) is =
    at (ltb n m) refl (n == m) refl is (λ e. before-not_behind ms ns e)
  where
    at : (a : Bool) → ltb n m ≡ a → (b : Bool) → (n == m) ≡ b
        → (a || (b && comes_before ns ms)) ≡ false
        → (comes_before ns ms ≡ false → IsNotBehind ms ns) → (m < n) ⊎ ((m ≡ n) × IsNotBehind ms ns)
    at true less b same e rest = absurd cc
    at false less true same e rest = inr (sym (eqb-true n m same), rest e)
    at false less false same e rest = inl (omega (arith, ltb-false n m less, eqb-false n m same))

-- a list doesn't come after itself
not_behind-self : (ns : List ℕ) → IsNotBehind ns ns
unfolding IsNotBehind
not_behind-self [] = tt
not_behind-self (n ∷ ns) = inr (refl, not_behind-self ns)

-- a list that doesn't come after a second doesn't come
-- after a third after which the second doesn't come
not_behind-on : (ls ms ns : List ℕ) → IsNotBehind ls ms → IsNotBehind ms ns → IsNotBehind ls ns
unfolding IsNotBehind
not_behind-on [] ms [] first second = tt
not_behind-on [] ms (n ∷ ns) first second = tt
not_behind-on (l ∷ ls) [] ns first second = absurd first
not_behind-on (l ∷ ls) (m ∷ ms) [] first second = absurd second
not_behind-on (l ∷ ls) (m ∷ ms) (n ∷ ns) (inl less) (inl more) = inl (omega (arith, less, more))
not_behind-on (l ∷ ls) (m ∷ ms) (n ∷ ns) (inl less) (inr at) = inl (omega (arith, less, at.0))
not_behind-on (l ∷ ls) (m ∷ ms) (n ∷ ns) (inr at) (inl more) = inl (omega (arith, more, at.0))
not_behind-on (l ∷ ls) (m ∷ ms) (n ∷ ns) (inr at) (inr also) =
    inr (at.0 ∙ also.0, not_behind-on ls ms ns at.1 also.1)

-- a list comes before another by its first item, or by the others
by_first : {m n : ℕ} {rest : Bool} → (ltb m n || ((m == n) && rest)) ≡ true
    → (m < n) ⊎ ((m ≡ n) × (rest ≡ true))
by_first {m} {n} {rest} is =
    elim (or_cases (ltb m n) ((m == n) && rest) is) as (λ _. (m < n) ⊎ ((m ≡ n) × (rest ≡ true))) [
      | inl less ↦ inl (ltb-true m n less)
      | inr at ↦ let parts = and_parts (m == n) rest at in inr (eqb-true m n parts.0, parts.1)
    ]

-- a list that comes before another doesn't come after it
before-first : (ms ns : List ℕ) → comes_before ms ns ≡ true → IsNotBehind ms ns
unfolding comes_before IsNotBehind
before-first [] [] is = tt
before-first [] (n ∷ ns) is = tt
before-first (m ∷ ms) [] is = absurd cc
before-first (m ∷ ms) (n ∷ ns) is =
    elim (by_first {m = m} {n = n} {rest = comes_before ms ns} is) as (λ _. (m < n)
    ⊎ ((m ≡ n) × IsNotBehind ms ns)) [
      | inl less ↦ inl less
      | inr at ↦ inr (at.0, before-first ms ns at.1)
    ]

-- the plan that is found costs no more than any
pub record IsCheapest (items : List PlanItem) (plans : List (List Placed))
    (found : List Placed) : Type 0 where
  pub among : Among plans found
  pub least : (other : List Placed) → Among plans other
      → IsNotBehind (cost_of items found) (cost_of items other)

no-plans : (items : List PlanItem) (plans : List (List Placed)) → cheapest_plan items plans ≡ None
    → (q : List Placed) → Among plans q → ⊥
unfolding cheapest_plan
no-plans items [] none q has = has
no-plans items (p ∷ plans) none q has = absurd cc

cheapest_plan-is : {items : List PlanItem} (plans : List (List Placed)) {found : List Placed}
    → cheapest_plan items plans ≡ Some found → IsCheapest items plans found
unfolding cheapest_plan
cheapest_plan-is [] e = absurd cc
cheapest_plan-is {items} (placed ∷ plans) {found} e =
    of (cheapest_plan items plans) refl e (λ other is. cheapest_plan-is plans is)
  where
    keeps : ((q : List Placed) → Among plans q
        → IsNotBehind (cost_of items placed) (cost_of items q))
        → IsCheapest items (placed ∷ plans) placed
    keeps least = record {
      among = inl refl;
      least = grind (arith, not_behind-self, least);
    }

    by : (other : List Placed) → IsCheapest items plans other → (b : Bool)
        → comes_before (cost_of items other) (cost_of items placed) ≡ b
        → IsCheapest items (placed ∷ plans) (cond b other placed)
    by other is true before = record {
      among = inr is.among;
      least = grind (arith, before-first);
    }
    by other is false before =
        keeps (λ q later.
        not_behind-on (cost_of items placed) (cost_of items other) (cost_of items q)
        (before-not_behind (cost_of items placed) (cost_of items other) before) (is.least q later))

    of : (o : Option (List Placed)) → cheapest_plan items plans ≡ o
        → Some (better_plan items placed o) ≡ Some found → ((other : List Placed)
        → cheapest_plan items plans ≡ Some other → IsCheapest items plans other)
        → IsCheapest items (placed ∷ plans) found
    of None is e rest = let same : placed ≡ found = cc in
        subst (IsCheapest items (placed ∷ plans)) same
        (keeps (λ q has. absurd (no-plans items plans is q has)))
    of (Some other) is e rest =
        let same : cond (comes_before (cost_of items other) (cost_of items placed)) other placed
        ≡ found = cc in
        subst (IsCheapest items (placed ∷ plans)) same
        (by other (rest other is) (comes_before (cost_of items other) (cost_of items placed)) refl)

-- ---- the plan's areas

-- the areas of items that were placed are a choice
pub chosen-for : (items : List PlanItem) (placed : List Placed) → AreItemSlots items placed
    → AreChosenAreas (map open_frame items) (item_areas items placed)
unfolding AreItemSlots item_areas AreChosenAreas
chosen-for [] [] slots = tt
chosen-for (item ∷ items) (p ∷ placed) slots = (
  Contains-area item.class item.protected item.choices slots.1,
  chosen-for items placed slots.2,
)
chosen-for _ _ slots = absurd slots

-- ---- the best plan of items

same_areas : {ms ns : List ℕ} → sum ns ≤ sum ms → (sum ms ≡ sum ns → IsNotBehind ns ms)
    → IsNotBehind (sum ms ∷ ms) (sum ns ∷ ns) → ms ≡ ns
unfolding IsNotBehind
same_areas short first h = grind (arith, equal_lists)

-- the best plan of some items is the plan that the search finds
plans-best : {window : ℕ} {items : List PlanItem} {placed : List Placed} → AreOrdered items
    → IsBestPlanFor window 0 items placed → best_placement window items ≡ Some placed
plans-best {window} {items} {placed} ordered is =
    of (best_placement window items) refl
  where
    own : (plan : List Placed) × Among (plans_of window items) plan
        × (item_areas items plan ≡ item_areas items placed)
    own = with-areas window items is.best.chosen is.best.feasible

    of : (o : Option (List Placed)) → best_placement window items ≡ o → o ≡ Some placed
    of None none = absurd (no-plans items (plans_of window items) none own.0 own.1)
    of (Some found) e =
        let cheap = cheapest_plan-is (plans_of window items) e in
        let also = from-plans window items cheap.among in
        let chosen = chosen-for items found also.slots in
        let before = subst (λ l. IsNotBehind (cost_of items found) (sum l ∷ l))
        own.2 (cheap.least own.0 own.1) in
        let areas = same_areas
        (is.best.shortest (item_areas items found) chosen also.feasible)
        (is.best.first (item_areas items found) chosen also.feasible) before in
        ap Some (one_placed items found placed ordered also.slots is.slots areas (also.begins
        ∙ ap (λ l. begins_of window 0 0 (frames_with_areas (map open_frame items) l)) areas
        ∙ sym is.begins))

short-of : (ms ns : List ℕ) → IsNotBehind (sum ms ∷ ms) (sum ns ∷ ns) → sum ms ≤ sum ns
unfolding IsNotBehind
short-of ms ns h = grind arith

first-of : (ms ns : List ℕ) → IsNotBehind (sum ms ∷ ms) (sum ns ∷ ns) → sum ns ≡ sum ms
    → IsNotBehind ms ns
unfolding IsNotBehind
first-of ms ns h same = grind arith

best-plans : {window : ℕ} {items : List PlanItem} {placed : List Placed}
    → best_placement window items ≡ Some placed → IsBestPlanFor window 0 items placed
best-plans {window} {items} {placed} e = record {
  slots = laid.slots;
  best =
      grind (
        arith,
        chosen-for items placed laid.slots,
        short-of,
        not_behind,
        first-of,
        laid.slots,
        laid.feasible,
      );
  begins = laid.begins;
}
  where
    cheap : IsCheapest items (plans_of window items) placed
    cheap = cheapest_plan-is (plans_of window items) e

    laid : IsLaid window items placed
    laid = from-plans window items cheap.among

    not_behind : (others : List ℕ) → AreChosenAreas (map open_frame items) others
        → HasLayout window 0 (frames_with_areas (map open_frame items) others)
        → IsNotBehind (cost_of items placed) (sum others ∷ others)
    not_behind others chosen feasible =
        let other = with-areas window items chosen feasible in
        subst (λ l. IsNotBehind (cost_of items placed) (sum l ∷ l))
        other.2 (cheap.least other.0 other.1)

-- if the search finds a plan, the items can be laid
of-laid : (window : ℕ) (items : List PlanItem) {placed : List Placed}
    → best_placement window items ≡ Some placed → CanBeLaid window (map open_frame items)
unfolding CanBeLaid
of-laid window items {placed} e = let is = (best-plans e).best in
    (item_areas items placed, is.chosen, is.feasible)

-- if the search finds none, no choice can be laid
pub none-laid : (window : ℕ) (items : List PlanItem) → best_placement window items ≡ None
    → CanBeLaid window (map open_frame items) → ⊥
unfolding CanBeLaid
none-laid window items none can = let other = with-areas window items can.1 can.2 in
    no-plans items (plans_of window items) none other.0 other.1

-- ---- the best plan of a part

ordered-behind : {choices : HeaderFields → List SlotFields} (needs : List Need)
    → PartsChooseInOrder choices (needs ∷ []) → (lead_in : Bool)
    → AreOrdered (items_with_lead_in lead_in choices needs)
unfolding items_with_lead_in all_items part_items
ordered-behind {choices} needs order false =
    subst AreOrdered (append-nil (map (need_item choices) needs))
    (ordered_whole choices (needs ∷ []) (None ∷ []) (all_in_order (needs ∷ []) order))
ordered-behind [] order true = tt
ordered-behind {choices} (first ∷ needs) order true =
    let sound = (order 0 (first ∷ needs) (omega arith) 0 first (omega arith)).class in (
      slots_ascend (class_of first.header) sound,
      subst AreOrdered (append-nil (map (need_item choices) (first ∷ needs))) (ordered_whole choices
          ((first ∷ needs) ∷ []) (None ∷ []) (all_in_order ((first ∷ needs) ∷ []) order)),
    )

module _ (window : ℕ) (choices : HeaderFields → List SlotFields) (needs : List Need)
    (placed : List Placed) where
  abbrev without : List PlanItem
  without = items_with_lead_in false choices needs

  abbrev behind : List PlanItem
  behind = items_with_lead_in true choices needs

  plan-of : PartsChooseInOrder choices (needs ∷ []) → (lead_in : Bool)
      → (lead_in ≡ false) ↔ CanBeLaid window (map open_frame (map (need_item choices) needs))
      → IsBestPlanFor window 0 (items_with_lead_in lead_in choices needs) placed
      → best_plan_of window choices needs ≡ Some placed
  unfolding items_with_lead_in
  plan-of order false alone best = ap (λ o. first_plan_of_two o (best_placement window behind))
      (plans-best (ordered-behind needs order false) best)
  plan-of order true alone best = at (best_placement window without) refl
    where
      at : (o : Option (List Placed)) → best_placement window without ≡ o
          → first_plan_of_two o (best_placement window behind) ≡ Some placed
      at None none = plans-best (ordered-behind needs order true) best
      at (Some other) e = let never : true ≡ false = alone.1 (of-laid window without e) in
          absurd cc

  of-plan : best_plan_of window choices needs ≡ Some placed → IsBestPlan window choices needs placed
  unfolding items_with_lead_in
  of-plan e = at (best_placement window without) refl e
    where
      at : (o : Option (List Placed)) → best_placement window without ≡ o
          → first_plan_of_two o (best_placement window behind) ≡ Some placed
          → IsBestPlan window choices needs placed
      at (Some other) is e = let same : other ≡ placed = cc in
          subst (IsBestPlan window choices needs) same (record {
            lead_in = false;
            without = ((λ _. of-laid window without is), (λ _. refl));
            whole = best-plans is;
          })
      at None none e = record {
        lead_in = true;
        without = ((λ f. absurd cc), (λ can. absurd (none-laid window without none can)));
        whole = best-plans e;
      }

-- the best plan is what the search of all choices finds
pub best-plan-of : BestPlanIsCheapest
best-plan-of = λ window choices needs placed order. (
  (λ is. plan-of window choices needs placed order is.lead_in is.without is.whole),
  of-plan window choices needs placed,
)
