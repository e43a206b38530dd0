-- The one part is placed after its lead-in.
use Rattle.std.proofs.Common.{arith, length, rules, subst, sym, ◌<◌}
use Rattle.frame_header.specs.Slots.{all_slots}
use Rattle.slot_plan.proofs.LeastPlanLemmas.{led-least}
use Rattle.slot_plan.proofs.PartLemmas.{one-class, one-part, placeable-own, planned-window}
use Rattle.slot_plan.{proofs.PlacedLemmas.led-placed, specs.Parts.{AreNeedsOfClass, window_in}}
use Rattle.slot_plan.specs.{Plans.IsLedPlan, Reserve.PlacesLedPart}
use Rattle.slot_plan.proofs.plans.plan_led.Goals as goal

pub place_led-requires : goal.place_led-requires
place_led-requires g c =
    let needs = c.args.needs.now in
    let some : 0 < length needs =
    omega (arith, c.requires.planned.within 0 0 c.requires.planned.some) in
    let class = one-class needs
    c.index-needs-0.result c.requires.planned.class c.class-class.ensures in
    let window = planned-window c.index-needs-0.result c.requires.planned c.class-class.ensures
    c.window-window.ensures.window
    in
    record {
      table = record {
        class = subst (λ k. AreNeedsOfClass k needs) (sym c.in_ok-table.ensures.class_is) class;
        of_slots = c.in_ok-table.ensures.of_slots;
      };
      part = placeable-own c.in_ok-table.ensures.class_is c.window-window.ensures.spanned
          (search rules) some
          (one-part needs window c.requires.planned.feasible);
      free = omega arith;
    }

pub returns : goal.returns
returns g c =
    let needs = c.args.needs.now in
    let choices = g.P.Policy.choices_of c.args.policy.now in
    let window = planned-window c.index-needs-0.result c.requires.planned c.class-class.ensures
    c.window-window.ensures.window
    in
    let after = c.in_ok-place_led.field-0 in
    let led = subst (λ l. PlacesLedPart c.window-window.result all_slots choices needs 0 after l
    c.place_led.new.placed.items) c.in_ok-placed.ensures.items c.in_ok-place_led.ensures.placed in
    let plan = subst (λ n. IsLedPlan n choices needs c.place_led.new.placed.items) window
    (led-placed led) in
    record {
      plan = plan;
      least =
          λ order. led-least (window_in needs) choices order
          plan;
    }
