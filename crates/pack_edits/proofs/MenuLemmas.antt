-- The slots of some bit rates: their areas ascend, there are some if the named one is a bit rate of
-- the class, and the largest slot is among the slots of all bit rates from one on.
use Rattle.std.proofs.Common.{All, AllPairs, arith, Bool, cond, Contains, false, filter, get_or}
use Rattle.std.proofs.Common.{leb, length, List, None, refl, slice_index, Some, subst, suc, true}
use Rattle.std.proofs.Common.{zero, ℕ, [], ◌&&◌, ◌-◌, ◌<◌, ◌==◌, ◌∷◌, ◌≡◌, ◌≤◌}
use Rattle.std.proofs.lemmas.Bool.{eqb-true, le-leb, leb-true, ltb-true}
use Rattle.std.proofs.lemmas.List.{get_or-map, get_or_default, length-map, Elements.All-filter}
use Rattle.std.{proofs.lemmas.List.Kept.AllPairs-filter, specs.List.list_all}
use Rattle.commands.specs.declared.fault.Refusal.TheVariants.{NoRate}
use Rattle.frame_header.proofs.SlotLemmas.{areas-ascend, Contains-all_slots, IsSlot-nth_slot}
use Rattle.frame_header.proofs.SlotLemmas.{length-all_slots}
use Rattle.frame_header.specs.Fields.{ClassFields, IsClass, IsSlot, SlotFields}
use Rattle.frame_header.specs.Slots.{all_slots, areas_of, largest_slot, slot_of, slots_to}
use Rattle.frame_header.specs.{Tables.{area_of, rate_of, rates}, declared.version.Version.Version}
use Rattle.pack_edits.specs.Rates.{allows, is_rate, menu_in, no_rate, rate_refusal}
use Rattle.rate_plan.specs.Menus.{HasAscendingAreas}
use Rattle.requests.specs.declared.mode.PackMode.{PackMode, TheVariants.{Constant, Floor}}
use Rattle.slot_plan.specs.Parts.{slot_areas}

-- ---- in order of area

-- the areas of some of the slots ascend if the areas of all do
pub menu-areas : (p : SlotFields → Bool) (class : ClassFields) (protected : Bool)
    → AllPairs (λ m n. m < n) (areas_of class protected)
    → AllPairs (λ m n. m < n) (slot_areas class protected (filter p all_slots))
unfolding areas_of
menu-areas p class protected ascend = λ i j d before within.
    let area : SlotFields → ℕ = λ s. area_of class s protected in
    let kept = filter p all_slots in
    let inside : j < length kept = omega (arith, within, length-map kept area) in
    let slots : AllPairs (λ s t. area s < area t) all_slots =
    (λ m n e early late. omega (
      arith,
      ascend m n 0 early (omega (arith, late, length-map all_slots area)),
      get_or-map area all_slots m e 0 (omega (arith, early, late)),
      get_or-map area all_slots n e 0 late,
    )) in
    let less = AllPairs-filter (λ s t. area s < area t) p all_slots slots i j
    (slot_of 1 false) before inside in
    omega (
      arith,
      less,
      get_or-map area kept i (slot_of 1 false) d (omega (arith, before, inside)),
      get_or-map area kept j (slot_of 1 false) d inside,
    )

-- the areas of a menu ascend
pub menu-ascends : (mode : PackMode) (class : ClassFields) → IsClass class
    → HasAscendingAreas class (menu_in mode class)
menu-ascends mode class sound =
    λ protected. menu-areas (allows mode class) class protected (areas-ascend class sound protected)

-- ---- menus have slots of the standard

-- all slots have legal bit rates
pub all-slots : All IsSlot all_slots
all-slots = λ k d within. subst IsSlot (get_or_default all_slots k (slot_of 1 false) d within)
    (IsSlot-nth_slot (omega (arith, within, length-all_slots)))

-- the slots of a menu have legal bit rates
pub menu-slots : (mode : PackMode) (class : ClassFields) (slot : SlotFields)
    → Contains (menu_in mode class) slot → IsSlot slot
menu-slots mode class slot has =
    subst IsSlot has.2 (All-filter (allows mode class) IsSlot all_slots all-slots has.0 slot has.1)

-- ---- a bit rate of the class

-- some slot has the bit rate
rate-is : (rate : ℕ) (class : ClassFields) → rate_refusal rate class ≡ None
    → 1 ≤ length (menu_in (Constant rate) class)
rate-is rate class none = omega
    (arith, ltb-true 0 (length (menu_in (Constant rate) class)) (at (is_rate rate class) refl none))
  where
    at : (b : Bool) → is_rate rate class ≡ b → cond b None (Some (NoRate rate)) ≡ None
        → is_rate rate class ≡ true
    at true is none = is
    at false is none = absurd cc

-- ---- the largest slot

rates-top : (version : Version) → list_all (λ (s : SlotFields). leb (slice_index (rates version)
    (s.rate_index - 1)) (slice_index (rates version) 13)) all_slots ≡ true
unfolding all_slots slots_to
rates-top version = grind arith

-- if all of these numbers are at most `most`, so is one of them
any-most : (f : SlotFields → ℕ) {n most : ℕ} (xs : List SlotFields)
    → list_all (λ x. leb (f x) most) xs ≡ true → 1 ≤ length (filter (λ x. f x == n) xs) → n ≤ most
any-most f [] all some = absurd (omega (arith, some))
any-most f {n} {most} (x ∷ xs) all some =
    at (leb (f x) most) refl all (f x == n) refl some (λ more. any-most f xs more)
  where
    at : (a : Bool) → leb (f x) most ≡ a → (a && list_all (λ y. leb (f y) most) xs) ≡ true
        → (b : Bool) → (f x == n) ≡ b
        → 1 ≤ length (cond b (x ∷ filter (λ y. f y == n) xs) (filter (λ y. f y == n) xs))
        → (list_all (λ y. leb (f y) most) xs ≡ true → 1 ≤ length (filter (λ y. f y == n) xs)
        → n ≤ most) → n ≤ most
    at false above all b same some rest = absurd cc
    at true below all true same some rest =
        omega (arith, leb-true (f x) most below, eqb-true (f x) n same)
    at true below all false same some rest = rest all some

contains-kept : (p : SlotFields → Bool) (xs : List SlotFields) {x : SlotFields} → Contains xs x
    → p x ≡ true → Contains (filter p xs) x
contains-kept p xs {x} has passes = walk xs has.0 has.1 has.2
  where
    at : (y : SlotFields) (ys : List SlotFields) → Contains (filter p ys) x → (b : Bool)
        → Contains (cond b (y ∷ filter p ys) (filter p ys)) x
    at y ys has true = (suc has.0, omega (arith, has.1), has.2)
    at y ys has false = has

    here : (y : SlotFields) (ys : List SlotFields) → y ≡ x → (b : Bool) → p y ≡ b
        → Contains (cond b (y ∷ filter p ys) (filter p ys)) x
    here y ys same b is = grind arith

    walk : (xs : List SlotFields) (k : ℕ) → k < length xs → get_or xs k x ≡ x
        → Contains (filter p xs) x
    walk [] k within same = absurd (omega (arith, within))
    walk (y ∷ ys) zero within same = here y ys same (p y) refl
    walk (y ∷ ys) (suc k) within same = at y ys (walk ys k (omega (arith, within)) same) (p y)

-- a mode that allows the largest slot has it in its menu
largest-kept : (mode : PackMode) (class : ClassFields) → allows mode class largest_slot ≡ true
    → Contains (menu_in mode class) largest_slot
largest-kept mode class allowed = contains-kept (allows mode class) all_slots
    (Contains-all_slots largest_slot (omega arith, omega arith)) allowed

-- with all bit rates from one on the largest slot is in the menu
pub floor-largest : (rate : ℕ) (class : ClassFields) → no_rate (Floor rate) class ≡ None
    → Contains (menu_in (Floor rate) class) largest_slot
unfolding rate_of
floor-largest rate class none =
    let most = any-most (rate_of class) all_slots
    (rates-top class.version) (rate-is rate class none) in
    largest-kept (Floor rate) class (le-leb rate (rate_of class largest_slot) most)

-- ---- menus have at least one slot

kept-some : (mode : PackMode) (class : ClassFields) → Contains (menu_in mode class) largest_slot
    → 1 ≤ length (menu_in mode class)
kept-some mode class has = omega (arith, has.1)

-- with a bit rate of the class the menu has a slot
pub menu-some : (mode : PackMode) (class : ClassFields) → no_rate mode class ≡ None
    → 1 ≤ length (menu_in mode class)
menu-some mode class none = grind (arith, rate-is, kept-some, floor-largest, largest-kept)
