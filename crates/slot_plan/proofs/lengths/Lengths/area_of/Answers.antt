-- The entry of the table, with the padding and without what is before the area.
use Rattle.std.proofs.Common.{ap, subst, sym, ◌+◌, ◌-◌, ◌∙◌, ◌≡◌, ◌≤◌}
use Rattle.frame_header.specs.{Fields.{ClassFields, SlotFields}, Tables.{area_of, overhead_of}}
use Rattle.slot_plan.proofs.LengthLemmas.{area-looked}
use Rattle.slot_plan.proofs.lengths.Lengths.area_of.Goals as goal

abbrev Is : goal.After-from-2 → SlotFields → ClassFields → Type 0
Is c slot class =
    (c.overhead_of-overhead.result ≤ c.from.result + c.from-2.result)
    × ((c.from.result + c.from-2.result) - c.overhead_of-overhead.result
    ≡ area_of class slot c.args.protected) × (area_of class slot c.args.protected ≤ 1441)

is : (c : goal.After-from-2) → Is c c.args.slot c.args.self.now
is c =
    let slot : SlotFields =
    record { rate_index = c.slot.inside.rate_index; padding = c.slot.inside.padding } in
    let before : c.overhead_of-overhead.result ≡ overhead_of c.self.inside.class c.args.protected =
    c.overhead_of-overhead.ensures.overhead
    ∙ ap (λ k. overhead_of k c.args.protected) (sym c.self.view_is) in
    let found = area-looked slot c.args.protected
    c.slot.invariant c.self.invariant c.from.ensures before in
    let here : Is c slot c.self.inside.class =
    subst (λ n. (c.overhead_of-overhead.result ≤ c.from.result + n) × ((c.from.result + n)
    - c.overhead_of-overhead.result ≡ area_of c.self.inside.class slot c.args.protected)
    × (area_of c.self.inside.class slot c.args.protected ≤ 1441)) (sym c.from-2.ensures) found in
    subst (λ k. Is c c.args.slot k)
    c.self.view_is (subst (λ t. Is c t c.self.inside.class) c.slot.view_is here)

pub overflow_sub-result : goal.overflow_sub-result
overflow_sub-result c = (is c).0

pub returns-clause-area : goal.returns-clause-area
returns-clause-area c = (is c).1

pub returns-clause-most : goal.returns-clause-most
returns-clause-most c = subst (λ n. n ≤ 1441) (sym (is c).1) (is c).2
