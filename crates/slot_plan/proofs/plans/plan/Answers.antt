-- One more part.
use Rattle.std.proofs.Common.{arith, drop, get_or, refl, subst, ◌+◌}
use Rattle.slot_plan.proofs.LeastPlanLemmas.{plan-least}
use Rattle.slot_plan.proofs.PartLemmas.{class-range, one-class, part-ready, parts-cons, parts-none}
use Rattle.slot_plan.proofs.PartLemmas.{placeable-own, planned-window}
use Rattle.slot_plan.proofs.PlacedLemmas.{parts-all, parts-begun, parts-more, PartsPlaced}
use Rattle.slot_plan.specs.Parts.{needs_in_parts}
use Rattle.slot_plan.proofs.plans.plan.Goals as goal

pub loop-at-init : goal.loop-at-init
loop-at-init g c = grind (arith, planned-window, parts-begun)

pub place_part-requires : goal.place_part-requires
place_part-requires g c = search (arith, one-class, part-ready, class-range, placeable-own)

pub loop-at-preserved : goal.loop-at-preserved
loop-at-preserved g c =
    let needs = c.args.needs.now in
    let parts = c.args.parts.now in
    let choices = g.P.Policy.choices_of c.args.policy.now in
    let ready = part-ready needs parts c.loop-at.at c.end_of.result c.window-window.result
    c.requires.planned.ascending c.requires.planned.within c.loop-at-test.true c.end_of.ensures.next
    c.end_of.ensures.last c.loop-at.invariant.feasible in
    let here = parts-cons needs parts c.loop-at.at (get_or parts c.loop-at.at 0)
    c.end_of.result c.loop-at-test.true refl c.end_of.ensures.next c.end_of.ensures.last in
    record {
      free = c.in_ok-free.ensures.within;
      feasible = ready.2;
      placed = parts-more (needs_in_parts needs parts)
          (needs_in_parts needs (drop (c.loop-at.at + 1) parts)) c.in_ok-free.ensures.placed
          (subst (λ l. PartsPlaced c.window-window.result choices (needs_in_parts needs parts) l
          c.loop-at.free c.loop-at.placed.items) here c.loop-at.invariant.placed);
    }

pub returns : goal.returns
returns g c = search (arith, planned-window, parts-none, parts-all, plan-least)
