-- Whether the first input has a lead-in, and whether the others want one.
use Rattle.std.proofs.Common.{ap, ap₂, cond, not, subst, sym, ◌&&◌, ◌∙◌}
use Rattle.frame_header.specs.{Fields.ClassFields, Tables.window_of}
use Rattle.seam_plan.proofs.LeadInLemmas.{front-is, front-none}
use Rattle.seam_plan.proofs.lead_ins.front_left_out.Goals.{After-needs_after}
use Rattle.seam_plan.specs.Joins.{fits_behind}
use Rattle.slot_plan.{proofs.PartLemmas.class-drop, specs.Parts.AreNeedsOfClass}
use Rattle.seam_plan.proofs.lead_ins.front_left_out.Goals as goal

pub returns-then-not-has_lead_in : goal.returns-then-not-has_lead_in
returns-then-not-has_lead_in c = λ class brought frames same all is splice.
    front-none class brought frames
    c.if-not-has_lead_in.true (c.has_lead_in.ensures class brought same is)

-- the frames of the splice after its first are of the class
others : (c : After-needs_after) (class : ClassFields) → AreNeedsOfClass class c.args.splice.now
    → AreNeedsOfClass class c.needs_after.result.now
others c class all = subst (AreNeedsOfClass class) (sym c.needs_after.ensures)
    (class-drop class c.args.splice.now 1 all)

pub returns-then-fit_alone : goal.returns-then-fit_alone
returns-then-fit_alone c = λ class brought frames same all is splice.
    ap₂ (λ h a. cond (h && not a) 1 0) (sym c.if-not-has_lead_in.false) (sym c.if-fit_alone.true)
    ∙ front-is class brought frames splice
    (c.has_lead_in.ensures class brought same is) (c.fit_alone.ensures class
    (others (goal.at.returns-then-fit_alone c).After-needs_after class all)
    ∙ ap (fits_behind (window_of class.version) 0) c.needs_after.ensures)

pub returns-else-fit_alone : goal.returns-else-fit_alone
returns-else-fit_alone c = λ class brought frames same all is splice.
    ap₂ (λ h a. cond (h && not a) 1 0) (sym c.if-not-has_lead_in.false) (sym c.if-fit_alone.false)
    ∙ front-is class brought frames splice
    (c.has_lead_in.ensures class brought same is) (c.fit_alone.ensures class
    (others (goal.at.returns-else-fit_alone c).After-needs_after class all)
    ∙ ap (fits_behind (window_of class.version) 0) c.needs_after.ensures)
