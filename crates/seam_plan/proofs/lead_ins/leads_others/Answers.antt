-- The header of the first frame, and of the lead-in of the others.
use Rattle.std.proofs.Common.{ap, arith, rules, subst, sym, ◌∙◌}
use Rattle.frame_header.specs.{Fields.IsHeader, Tables.window_of}
use Rattle.seam_plan.proofs.{LeadInLemmas.{leads-is, leads-none}, SpliceLemmas.drop-fits}
use Rattle.seam_plan.specs.Joins.{is_same_header}
use Rattle.slot_plan.proofs.PartLemmas.{class-drop}
use Rattle.slot_plan.specs.{FreeBytes.{FitBehindWindow, IsLeadInHeader}, Parts.AreNeedsOfClass}
use Rattle.slot_plan.specs.declared.needs.Need.{Need}
use Rattle.seam_plan.proofs.lead_ins.leads_others.Goals as goal

pub returns-then-needs-lt2 : goal.returns-then-needs-lt2
returns-then-needs-lt2 c = λ class same. leads-none (window_of class.version)
    c.args.needs.now (omega (arith, c.if-needs-lt2.true))

pub lead_in-header-requires-clause-fits : goal.lead_in-header-requires-clause-fits
lead_in-header-requires-clause-fits c =
    subst FitBehindWindow (sym c.needs_after.ensures) (drop-fits 1 c.requires)

pub returns : goal.returns
returns c = λ class same.
    let header : IsHeader c.lead_in-header.result = search rules in
    let leads = c.lead_in-header.ensures class
    (subst (AreNeedsOfClass class) (sym c.needs_after.ensures)
    (class-drop class c.args.needs.now 1 same)) in
    c.is_same_header.ensures
    ∙ ap (λ (n : Need). is_same_header n.header c.lead_in-header.result) (sym c.index-needs-0.is)
    ∙ leads-is (window_of class.version)
    c.args.needs.now c.index-needs-0.is (omega (arith, c.if-needs-lt2.false)) header
    (subst (λ l. IsLeadInHeader (window_of class.version) l c.lead_in-header.result)
    c.needs_after.ensures leads)
