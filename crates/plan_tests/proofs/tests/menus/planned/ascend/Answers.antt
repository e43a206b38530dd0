-- One more area, and all.
use Rattle.std.proofs.Common.{ap, arith, Bool, get_or, inl, inr, length, List, sym, ℕ, ◌+◌, ◌-◌}
use Rattle.std.proofs.{Common.{◌<◌, ◌∙◌, ◌≡◌}, lemmas.Bool.cases_lt}
use Rattle.std.proofs.lemmas.List.{get_or-map, length-map, Kept.AllPairs-from_increasing}
use Rattle.frame_header.specs.{Fields.{ClassFields, SlotFields}, Tables.area_of}
use Rattle.slot_plan.specs.Parts.{slot_areas}
use Rattle.plan_tests.proofs.tests.menus.planned.ascend.Goals as goal

area-here : (class : ClassFields) (protected : Bool) (menu : List SlotFields) (i : ℕ)
    (slot : SlotFields) → i < length menu → slot ≡ get_or menu i slot
    → get_or (slot_areas class protected menu) i 0 ≡ area_of class slot protected
area-here class protected menu i slot within is =
    get_or-map (λ s. area_of class s protected) menu i slot 0 within
    ∙ ap (λ s. area_of class s protected) (sym is)

pub loop-i-preserved : goal.loop-i-preserved
loop-i-preserved c = λ k before.
    let areas : List ℕ = slot_areas c.args.class c.args.protected c.args.menu.now in
    let i : ℕ = c.loop-i.i in
    elim (cases_lt (k + 1) i) as (λ _. get_or areas k 0 < get_or areas (k + 1) 0) [
      | inl earlier ↦ c.loop-i.invariant k earlier
      | inr last ↦
          let one : k ≡ i - 1 = omega (arith, before, last) in
          let two : k + 1 ≡ i = omega (arith, before, last) in
          let first = area-here c.args.class c.args.protected c.args.menu.now (i - 1)
          c.index-menu-i.result (omega (arith, c.loop-i-test.true)) c.index-menu-i.is in
          let second = area-here c.args.class c.args.protected c.args.menu.now i
          c.index-menu-i-in-loop-i.result (omega (arith, c.loop-i-test.true))
          c.index-menu-i-in-loop-i.is in
          omega (
            arith,
            ap (λ n. get_or areas n 0) one,
            ap (λ n. get_or areas n 0) two,
            first,
            second,
            c.area_of.ensures.area,
            c.area_of-in-loop-i.ensures.area,
            c.if-area_of.false,
          )
    ]

pub returns : goal.returns
returns c = λ is.
    let areas : List ℕ = slot_areas c.args.class c.args.protected c.args.menu.now in
    AllPairs-from_increasing areas
    (λ k before. c.loop-i.invariant k (omega (
      arith,
      before,
      length-map c.args.menu.now (λ s. area_of c.args.class s c.args.protected),
      c.loop-i-test.false,
    )))
