-- The frames after the lead-in join, or can't.
use Rattle.std.proofs.Common.{ap, drop, subst, sym, ◌∙◌, ◌≡◌}
use Rattle.frame_header.specs.{Fields.ClassFields, Tables.window_of}
use Rattle.seam_plan.proofs.SeamLemmas.{needs-drop, without-lead, without-some, without-want}
use Rattle.seam_plan.proofs.SpliceLemmas.{all-window, drop-window}
use Rattle.seam_plan.proofs.splice.Run.without_lead_in.Goals.{Else-not-has_lead_in}
use Rattle.seam_plan.specs.Joins.{fits_behind}
use Rattle.slot_plan.proofs.{FreeByteLemmas.fits-drop, PartLemmas.class-drop}
use Rattle.slot_plan.specs.{FreeBytes.{FitBehindWindow, FitsBehind}, Parts.AreNeedsOfClass}
use Rattle.seam_plan.proofs.splice.Run.without_lead_in.Goals as goal

pub has_lead_in-requires : goal.has_lead_in-requires
has_lead_in-requires c = all-window c.requires.input

pub fit_alone-requires : goal.fit_alone-requires
fit_alone-requires c = subst FitBehindWindow (sym c.needs_after-others.ensures)
    (drop-window 1 c.requires.input)

pub joining-requires-clause-same : goal.joining-requires-clause-same
joining-requires-clause-same c =
    subst (AreNeedsOfClass c.args.self.now.class) (sym c.needs_after-others.ensures)
    (class-drop c.args.self.now.class c.args.input.now.needs.now 1 c.requires.input.same)

pub joining-requires-clause-fits : goal.joining-requires-clause-fits
joining-requires-clause-fits c =
    let window = window_of c.args.self.now.class.version in
    subst (FitsBehind window window) (sym c.needs_after-others.ensures)
    (fits-drop window 0 1 c.args.input.now.needs.now c.requires.input.fits)

module _ (c : Else-not-has_lead_in) {class : ClassFields} (of_class : c.args.self.now.class ≡ class)
  where
    same : AreNeedsOfClass class c.args.input.now.needs.now
    same = subst (λ k. AreNeedsOfClass k c.args.input.now.needs.now) of_class c.requires.input.same

    others : AreNeedsOfClass class c.needs_after-others.result.now
    others = subst (AreNeedsOfClass class) (sym c.needs_after-others.ensures)
        (class-drop class c.args.input.now.needs.now 1 same)

pub returns-then-not-has_lead_in-clause-joint : goal.returns-then-not-has_lead_in-clause-joint
returns-then-not-has_lead_in-clause-joint c = λ class frames places before brought is brings.
    let same =
    subst (λ k. AreNeedsOfClass k c.args.input.now.needs.now) is.of_class c.requires.input.same in
    without-lead class frames brings
    (c.has_lead_in.ensures class brought same brings) c.if-not-has_lead_in.true

pub returns-then-fit_alone-clause-joint : goal.returns-then-fit_alone-clause-joint
returns-then-fit_alone-clause-joint c = λ class frames places before brought is brings.
    let at = (goal.at.returns-then-fit_alone-clause-joint c).Else-not-has_lead_in in
    without-want class frames brings
    (c.has_lead_in.ensures class brought (same at is.of_class) brings)
    (c.fit_alone.ensures class (others at is.of_class)
    ∙ ap (fits_behind (window_of class.version) 0) c.needs_after-others.ensures) c.if-fit_alone.true

pub returns-clause-joint : goal.returns-clause-joint
returns-clause-joint c = λ class frames places before brought is brings.
    let at = (goal.at.returns-clause-joint c).Else-not-has_lead_in in
    without-some class frames brings
    (c.has_lead_in.ensures class brought (same at is.of_class) brings)
    c.joining.result (c.fit_alone.ensures class (others at is.of_class)
    ∙ ap (fits_behind (window_of class.version) 0) c.needs_after-others.ensures)
    c.if-not-has_lead_in.false c.if-fit_alone.false
    (c.joining.ensures.joining class frames (drop 1 brought.frames) places before is
    (c.needs_after-others.ensures ∙ needs-drop 1 brings))
