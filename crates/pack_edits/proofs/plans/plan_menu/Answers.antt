-- The frames are of one class, and the menu has a slot.
use Rattle.std.proofs.Common.{ap, arith, length, ◌∙◌}
use Rattle.laying.proofs.PartsLemmas.{one_class}
use Rattle.pack_edits.proofs.{MenuLemmas.menu-some, PlanLemmas.{is-menu, planner-says}}
use Rattle.pack_edits.proofs.plans.plan_menu.Goals as goal

pub rate_plan-requires-clause-class : goal.rate_plan-requires-clause-class
rate_plan-requires-clause-class c = one_class c.args.class c.args.needs.now c.requires.class

pub rate_plan-requires-clause-slots : goal.rate_plan-requires-clause-slots
rate_plan-requires-clause-slots c = omega (
  arith,
  menu-some c.args.mode c.args.class c.requires.named,
  ap length (c.as_slice.ensures.value ∙ c.menu_of-menu.ensures.menu),
)

pub rate_plan-requires-clause-ascending : goal.rate_plan-requires-clause-ascending
rate_plan-requires-clause-ascending c = rw c.as_slice.ensures.value (is-menu c.args.class
    c.menu_of-menu.result.items c.args.needs.now c.requires.class c.menu_of-menu.ensures.ascending)

pub returns : goal.returns
returns c =
    planner-says c.args.class _ c.args.needs.now c.rate_plan.result c.requires.class c.requires.some
    (rw (c.as_slice.ensures.value, c.menu_of-menu.ensures.menu) at c.rate_plan.ensures.least)
