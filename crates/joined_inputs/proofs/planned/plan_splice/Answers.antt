-- The plan of the splice.
use Rattle.std.proofs.{Common.{subst, sym}, lemmas.Result.IfOk-weaker}
use Rattle.frame_header.proofs.HeaderLemmas.{IsClass-class_of}
use Rattle.frame_header.specs.Fields.{ClassFields, IsClass, IsHeader}
use Rattle.joined_inputs.proofs.SplicePlanLemmas.{can-plan, fits-in, plan-fits, plan-is}
use Rattle.joined_inputs.proofs.planned.plan_splice.Goals.{After-header}
use Rattle.slot_plan.{proofs.PartLemmas.same-class, specs.Parts.AreNeedsOfClass}
use Rattle.slot_plan.specs.declared.needs.Need.{Need}
use Rattle.joined_inputs.proofs.planned.plan_splice.Goals as goal

-- a class that all needs have is one of the standard
known : (c : After-header) (class : ClassFields) → AreNeedsOfClass class c.args.needs.now
    → IsClass class
known c class same =
    let header = subst (λ (n : Need). IsHeader n.header) (sym c.index-needs-0.is)
    (subst IsHeader c.header.view_is c.header.invariant) in
    let of = same-class c.args.needs.now same
    c.requires.some c.index-needs-0.is in
    subst IsClass (sym of) (IsClass-class_of header)

pub plan-requires-clause-planned : goal.plan-requires-clause-planned
plan-requires-clause-planned c =
    let fit = c.requires.fits in
    can-plan fit.class c.args.needs.now
    (known (goal.at.plan-requires-clause-planned c).After-header fit.class fit.same)
    fit.same c.requires.some fit.fits

pub returns-clause-plan : goal.returns-clause-plan
returns-clause-plan c =
    IfOk-weaker c.plan.result _ _ (λ plan is class same.
    plan-is class c.args.needs.now
    (known (goal.at.returns-clause-plan c).After-header class same) same c.requires.some
    (fits-in class c.args.needs.now c.requires.some same c.requires.fits) is)
    c.plan.ensures

pub returns-clause-fits : goal.returns-clause-fits
returns-clause-fits c =
    IfOk-weaker c.plan.result _ _ (λ plan is class same.
    plan-fits class c.args.needs.now
    (known (goal.at.returns-clause-fits c).After-header class same) same c.requires.some
    (fits-in class c.args.needs.now c.requires.some same c.requires.fits) is)
    c.plan.ensures
