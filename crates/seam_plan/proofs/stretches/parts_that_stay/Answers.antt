-- Each stretch, and what stays behind the last.
use Rattle.std.proofs.Common.{ap, arith, inl, inr, length, refl, rules, sym, ℕ, ◌<◌, ◌∙◌, ◌≡◌, ◌≤◌}
use Rattle.std.{proofs.Common.◌⊎◌, specs.Prelude.{Err, slice_index_or}}
use Rattle.seam_plan.proofs.StayingLemmas.{parts-none, parts-some, staying-order, stays-all}
use Rattle.seam_plan.proofs.StayingLemmas.{stays-early, stays-more, stays-none, stays-wrong}
use Rattle.seam_plan.proofs.stretches.parts_that_stay.Goals.{After-add_part-2}
use Rattle.seam_plan.proofs.stretches.parts_that_stay.Goals.{then-from-to-via-else-from-to+then-to-from}
use Rattle.seam_plan.proofs.stretches.parts_that_stay.Goals.{then-from-to-via-then-from-to}
use Rattle.seam_plan.specs.Stretches.{parts_or_none, staying_parts}
use Rattle.seam_plan.proofs.stretches.parts_that_stay.Goals as goal

pub loop-from-init : goal.loop-from-init
loop-from-init c = grind (arith, stays-none)

pub returns-then-from-clause-parts : goal.returns-then-from-clause-parts
returns-then-from-clause-parts c = grind (arith, stays-early)

pub returns-then-from-to-clause-parts : goal.returns-then-from-to-clause-parts
returns-then-from-to-clause-parts c =
    let at : ℕ × ℕ = slice_index_or c.args.stretches.now c.loop-from.from-index (0, 0) in
    let wrong : (at.1 ≤ at.0) ⊎ (c.args.frames < at.1) = elim c.then-from-to.branch
    as (λ _. (at.1 ≤ at.0) ⊎ (c.args.frames < at.1)) [
      | then-from-to-via-then-from-to w ↦ inl (omega (arith, w.if-from-to.true))
      | then-from-to-via-else-from-to+then-to-from w ↦
          inr (omega (arith, w.if-to-from.true, w.from-else-from-to.ensures))
    ] in
    stays-wrong c.loop-from.invariant c.loop-from-test.true refl
    (omega (arith, c.if-from.false, c.from.ensures)) wrong

pub add_part-requires : goal.add_part-requires
add_part-requires c = omega (arith, c.loop-from.invariant.few, c.loop-from-test.true, c.requires)

pub loop-from-preserved : goal.loop-from-preserved
loop-from-preserved c =
    let at : ℕ × ℕ = slice_index_or c.args.stretches.now c.loop-from.from-index (0, 0) in
    stays-more c.loop-from.invariant c.loop-from-test.true refl
    c.add_part.new.parts.items (omega (arith, c.if-from.false, c.from.ensures))
    (omega (arith, c.if-from-to.false))
    (omega (arith, c.if-to-from.false, c.from-else-from-to.ensures)) c.add_part.ensures.added
    c.add_part.ensures.few

pub add_part-requires-2 : goal.add_part-requires-2
add_part-requires-2 c =
    omega (arith, c.loop-from.invariant.few, c.loop-from.auto.from-index-end, c.requires)

all : (c : After-add_part-2)
    → staying_parts c.args.frames c.args.stretches.now
    ≡ parts_or_none c.args.frames c.add_part-2.new.parts.items
all c =
    stays-all c.loop-from.invariant
    (omega (arith, c.loop-from-test.false)) c.add_part-2.ensures.added

pub returns-then-is_empty-clause-parts : goal.returns-then-is_empty-clause-parts
returns-then-is_empty-clause-parts c =
    let none : length c.add_part-2.new.parts.items ≡ 0 = search rules in
    all (goal.at.returns-then-is_empty-clause-parts c).After-add_part-2
    ∙ parts-none c.args.frames c.add_part-2.new.parts.items none
    ∙ ap (λ n. Err (0, n)) (sym c.from-then-is_empty.ensures)

pub returns-clause-parts : goal.returns-clause-parts
returns-clause-parts c =
    let some : 0 < length c.add_part-2.new.parts.items = search rules in
    all (goal.at.returns-clause-parts c).After-add_part-2
    ∙ parts-some c.args.frames some

pub returns-clause-some : goal.returns-clause-some
returns-clause-some c =
    staying-order c.args.frames c.args.stretches.now
    (returns-clause-parts c)
