-- The first of slots with ascending areas that passes a test is the least that does.
use Rattle.std.proofs.Common.{arith, Bool, cond, Contains, false, List, None, refl, Some, suc, true}
use Rattle.std.{proofs.Common.{zero, [], ◌∷◌, ◌≡◌, ◌≤◌}, specs.Prelude.find}
use Rattle.frame_header.specs.{Fields.{ClassFields, SlotFields}, Tables.area_of}
use Rattle.slot_plan.proofs.{AreaLemmas.Ascend, LeastPlanLemmas.{area-later, ascend-behind}}
use Rattle.slot_plan.specs.Parts.{slot_areas}

module _ (c : ClassFields) (p : Bool) (test : SlotFields → Bool) where
  abbrev IsLeastIn : List SlotFields → SlotFields → Type 0
  IsLeastIn slots slot = (other : SlotFields) → Contains slots other → test other ≡ true
      → area_of c slot p ≤ area_of c other p

  first-is : {s : SlotFields} (slots : List SlotFields) {slot : SlotFields}
      → Ascend (slot_areas c p (s ∷ slots)) → Contains (s ∷ slots) slot → IsLeastIn (s ∷ slots) slot
      → test s ≡ true → s ≡ slot
  first-is slots ascend (zero, within, at) least passes = at
  first-is {s} slots {slot} ascend (suc k, within, at) least passes =
      grind (arith, area-later c p s slots ascend (k, omega (arith, within), at))

  behind : {s : SlotFields} (slots : List SlotFields) {slot : SlotFields}
      → Contains (s ∷ slots) slot → test slot ≡ true → test s ≡ false → Contains slots slot
  behind slots h passes fails = grind arith

  -- the slot is the first, if this passes, or otherwise found among the others
  found : {s : SlotFields} (slots : List SlotFields) {slot : SlotFields} {b : Bool}
      → (b ≡ true → s ≡ slot) → (b ≡ false → find test slots ≡ Some slot)
      → cond b (Some s) (find test slots) ≡ Some slot
  found slots here later = grind arith

  -- the first of slots with ascending areas that passes the test is the least that does
  pub find-least : (slots : List SlotFields) {slot : SlotFields} → Ascend (slot_areas c p slots)
      → Contains slots slot → test slot ≡ true → IsLeastIn slots slot → find test slots ≡ Some slot
  find-least [] ascend has passes least = absurd (omega (arith, has.1))
  find-least (s ∷ slots) {slot} ascend has passes least =
      found slots (first-is slots ascend has least)
      (λ is. find-least slots (ascend-behind (slot_areas c p slots) ascend)
      (behind slots has passes is) passes
      (λ other there. least other (suc there.0, omega (arith, there.1), there.2)))

none-found : (test : SlotFields → Bool) (s : SlotFields) (slots : List SlotFields) {b : Bool}
    → (b ≡ true → ⊥) → (b ≡ false → find test slots ≡ None)
    → cond b (Some s) (find test slots) ≡ None
none-found test s slots never later = grind arith

-- if no slot passes the test, none is found
pub find-none : {test : SlotFields → Bool} (slots : List SlotFields)
    → ((other : SlotFields) → Contains slots other → test other ≡ true → ⊥) → find test slots ≡ None
find-none [] none = refl
find-none {test} (s ∷ slots) none =
    none-found test s slots (none s (zero, omega arith, refl))
    (λ is. find-none slots
    (λ other there. none other (suc there.0, omega (arith, there.1), there.2)))
