-- Menus of slots that are next to each other among all slots.
use Rattle.std.proofs.Common.{AllPairs, ap, arith, Bool, Contains, get_or, length, List, lit≤}
use Rattle.std.proofs.Common.{slice_range, ℕ, ◌+◌, ◌-◌, ◌<◌, ◌∙◌, ◌≡◌, ◌≤◌}
use Rattle.std.proofs.lemmas.List.{drop-map, get_or-drop, get_or-take, length-drop, length-take-le}
use Rattle.std.proofs.lemmas.List.{take-map}
use Rattle.frame_header.proofs.SlotLemmas.{areas-ascend, get_or-place_of, length-all_slots}
use Rattle.frame_header.{proofs.SlotLemmas.length-areas_of, specs.Fields.{ClassFields, IsClass}}
use Rattle.frame_header.specs.Slots.{all_slots, areas_of, largest_slot}
use Rattle.rate_plan.specs.Laws.{SlicesAreMenus}
use Rattle.slot_plan.specs.Parts.{slot_areas}

-- a slice of the slots has as many slots as its bounds are apart
pub slice-many : {from to : ℕ} → from < to → to ≤ 28
    → length (slice_range all_slots from to) ≡ to - from
slice-many some within = grind (arith, length-take-le, length-drop, length-all_slots)

-- an element of a slice is the element of the list that is `from` places further on
pub slice-at : {X : Type 0} (xs : List X) (from to : ℕ) {i : ℕ} (d : X) → i < to - from
    → get_or (slice_range xs from to) i d ≡ get_or xs (from + i) d
slice-at xs from to d before = grind (arith, get_or-take, get_or-drop)

areas-slice : (class : ClassFields) (protected : Bool) (from to : ℕ)
    → slot_areas class protected (slice_range all_slots from to)
    ≡ slice_range (areas_of class protected) from to
unfolding areas_of
areas-slice class protected from to = grind (arith, take-map, drop-map)

slice-ascends : (class : ClassFields) (protected : Bool) {from to : ℕ} → IsClass class → from < to
    → to ≤ 28 → AllPairs (λ m n. m < n) (slice_range (areas_of class protected) from to)
slice-ascends class protected sound some within =
    grind (arith, length-areas_of, slice_range, length-take-le, length-drop, areas-ascend, slice-at)

ends-largest : {from to : ℕ} → from < to → to ≡ 28
    → Contains (slice_range all_slots from to) largest_slot
ends-largest {from} {to} some last =
    let at : from + (27 - from) ≡ 27 = omega (arith, some, last) in (
      27 - from,
      omega (arith, slice-many some (omega (arith, last)), some, last),
      slice-at all_slots from to largest_slot (omega (arith, some, last))
          ∙ ap (λ k. get_or all_slots k largest_slot) at
          ∙ get_or-place_of largest_slot (lit≤ tt, lit≤ tt),
    )

-- slots next to each other among all slots are a menu
pub slices-menus : SlicesAreMenus
slices-menus = grind (arith, areas-slice, slice-ascends, slice-many, ends-largest)
