-- The first frame in its slot, and then the others.
use Rattle.std.proofs.Common.{ap₂, subst, sym, ◌∙◌, ◌∷◌, ◌≡◌}
use Rattle.frame_header.specs.Tables.{window_of}
use Rattle.seam_plan.proofs.{SpliceLemmas.first-moved, adding.left_in_slot.Goals.After-needs_after}
use Rattle.slot_plan.proofs.PartLemmas.{class-drop}
use Rattle.slot_plan.specs.FreeBytes.{FitsBehind, IsMostLeft, needs_with_first_slot}
use Rattle.slot_plan.specs.Parts.{AreNeedsOfClass}
use Rattle.seam_plan.proofs.adding.left_in_slot.Goals as goal

-- these are all the frames
whole : (c : After-needs_after) → needs_with_first_slot c.args.slot c.args.needs.now
    ≡ c.in_slot.result ∷ c.needs_after.result.now
whole c = first-moved c.args.needs.now c.args.slot c.requires.some
    c.index-needs-0.is
    ∙ ap₂ (λ n l. n ∷ l) (sym c.in_slot.ensures) (sym c.needs_after.ensures)

pub left_behind-requires-clause-same : goal.left_behind-requires-clause-same
left_behind-requires-clause-same c =
    subst (AreNeedsOfClass c.args.class) (sym c.needs_after.ensures)
    (class-drop c.args.class c.args.needs.now 1 c.requires.same)

pub left_behind-requires-clause-fits : goal.left_behind-requires-clause-fits
left_behind-requires-clause-fits c =
    subst (FitsBehind (window_of c.args.class.version) c.args.left) (whole c) c.requires.fits

pub returns : goal.returns
returns c =
    subst (λ l. IsMostLeft (window_of c.args.class.version) c.args.left l c.left_behind.result)
    (sym (whole (goal.at.returns c).After-needs_after)) c.left_behind.ensures
