-- Neighbouring slots ascend, and a header's own slot is the first of those from its place on.
use Rattle.std.proofs.Common.{AllPairs, ap, arith, Contains, get_or, List, subst, sym, ◌<◌, ◌∙◌}
use Rattle.std.{proofs.Common.◌≡◌, specs.Prelude.slice_range}
use Rattle.frame_header.proofs.HeaderLemmas.{IsClass-class_of}
use Rattle.frame_header.proofs.SlotLemmas.{get_or-place_of, place_of, place_of-below}
use Rattle.frame_header.specs.{Fields.{HeaderFields, IsHeader, IsSlot, SlotFields}, Slots.all_slots}
use Rattle.frame_header.specs.Tables.{class_of}
use Rattle.rate_plan.{proofs.MenuLemmas.{slice-at, slice-many}, specs.Laws.SlicesAreMenus}
use Rattle.slot_plan.specs.Parts.{header_areas, slot_areas}
use Rattle.plan_tests.proofs.tests.parts.larger.NoSmallerPolicy.choices.Goals as goal

abbrev larger : HeaderFields → List SlotFields
larger h = slice_range all_slots (place_of h.slot) 28

larger-ascend : (h : HeaderFields) → IsHeader h → SlicesAreMenus
    → AllPairs (λ m n. m < n) (header_areas larger h)
larger-ascend h is menus = (menus (class_of h) (place_of h.slot) 28 (IsClass-class_of is)
    (place_of-below h.slot is.slot) (omega arith)).0 h.protected

own-first : (slot : SlotFields) → IsSlot slot
    → Contains (slice_range all_slots (place_of slot) 28) slot
own-first slot is =
    let below : place_of slot < 28 = place_of-below slot is in (
      0,
      omega (arith, below, slice-many below (omega arith)),
      slice-at all_slots (place_of slot) 28 slot (omega (arith, below))
          ∙ ap (λ k. get_or all_slots k slot) (omega arith) ∙ get_or-place_of slot is,
    )

module _ (c : goal.After-slots_from) where
  header : IsHeader c.args.header.now
  header = subst IsHeader c.header.view_is c.header.invariant

  are : c.slots_from.result.items ≡ larger c.args.header.now
  are = c.slots_from.ensures ∙ ap (λ n. slice_range all_slots n 28)
      (c.place_of.ensures.place ∙ ap (λ h. place_of h.slot) c.header.view_is)

pub returns-clause-ascending : goal.returns-clause-ascending
returns-clause-ascending c =
    subst (λ slots. AllPairs (λ m n. m < n)
    (slot_areas (class_of c.args.header.now) c.args.header.now.protected slots)) (sym (are c))
    (larger-ascend c.args.header.now (header c) c.slices_are_menus.ensures)

pub returns-clause-own : goal.returns-clause-own
returns-clause-own c = subst (λ slots. Contains slots c.args.header.now.slot) (sym (are c))
    (own-first c.args.header.now.slot (header c).slot)
