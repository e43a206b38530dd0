-- The frames after the shared ones join, or can't.
use Rattle.std.proofs.Common.{drop, None, subst, sym, ◌∙◌}
use Rattle.frame_header.specs.Tables.{window_of}
use Rattle.seam_plan.proofs.SeamLemmas.{follow-by, needs-drop}
use Rattle.slot_plan.proofs.{FreeByteLemmas.fits-drop, PartLemmas.class-drop}
use Rattle.slot_plan.specs.{FreeBytes.FitsBehind, Parts.AreNeedsOfClass}
use Rattle.seam_plan.proofs.splice.Run.following.Goals as goal

pub joining-requires-clause-same : goal.joining-requires-clause-same
joining-requires-clause-same c =
    subst (AreNeedsOfClass c.args.self.now.class) (sym c.needs_after-needs.ensures)
    (class-drop c.args.self.now.class c.args.input.now.needs.now _ c.requires.input.same)

pub joining-requires-clause-fits : goal.joining-requires-clause-fits
joining-requires-clause-fits c =
    let window = window_of c.args.self.now.class.version in
    subst (FitsBehind window window) (sym c.needs_after-needs.ensures)
    (fits-drop window 0 _ c.args.input.now.needs.now c.requires.input.fits)

pub returns-in_default-clause-joint : goal.returns-in_default-clause-joint
returns-in_default-clause-joint c = λ class frames places before brought is brings same.
    follow-by class frames before brought None same c.in_default.is tt

pub returns-clause-joint : goal.returns-clause-joint
returns-clause-joint c = λ class frames places before brought is brings same.
    let k = c.in-Some.overlap.frames in
    follow-by class frames before brought c.joining.result
    same c.in-Some.is
    (c.joining.ensures.joining class frames (drop k brought.frames) places before is
    (c.needs_after-needs.ensures ∙ needs-drop k brings))
