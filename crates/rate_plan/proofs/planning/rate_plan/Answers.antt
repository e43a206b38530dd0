-- The first unfit frame, or the plan.
use Rattle.std.proofs.Common.{rules}
use Rattle.rate_plan.proofs.LeastMenuPlanLemmas.{plan-answered, unfit-answered}
use Rattle.rate_plan.proofs.planning.rate_plan.Goals.{After-class-class}
use Rattle.slot_plan.proofs.PartLemmas.{one-class}
use Rattle.rate_plan.proofs.planning.rate_plan.Goals as goal

pub first_unfit-requires-clause-needs : goal.first_unfit-requires-clause-needs
first_unfit-requires-clause-needs c = record {
  class_is = one-class c.args.needs.now c.index-needs-0.result c.requires.class
      c.class-class.ensures;
  some = c.requires.some;
  few = c.requires.few;
}

pub fit_plan-requires-clause-needs : goal.fit_plan-requires-clause-needs
fit_plan-requires-clause-needs c =
    first_unfit-requires-clause-needs (goal.at.fit_plan-requires-clause-needs c).After-class-class

pub returns-in-Some : goal.returns-in-Some
returns-in-Some c = record {
  plan = tt;
  refusal = search rules;
  least = unfit-answered c.args.menu.now c.args.needs.now
      c.index-needs-0.result c.requires.class c.requires.some c.class-class.ensures
      c.requires.ascending c.in-Some.ensures;
}

pub returns : goal.returns
returns c = record {
  plan = search rules;
  refusal = tt;
  least = plan-answered c.args.menu.now c.args.needs.now c.index-needs-0.result
      c.requires.class c.requires.some c.class-class.ensures c.requires.ascending
      c.in_ok-fit_plan.ensures;
}
