-- The bytes that are left in each case.
use Rattle.std.proofs.Common.{ap, subst, sym, ◌∙◌, ◌∷◌}
use Rattle.frame_header.specs.Tables.{window_of}
use Rattle.seam_plan.proofs.PartJointLemmas.{needs-items}
use Rattle.seam_plan.specs.PartSplices.{item_needs, joint_items}
use Rattle.slot_plan.specs.FreeBytes.{FitsBehind, IsMostLeft, needs_with_first_slot}
use Rattle.slot_plan.specs.declared.needs.Need.{Need}
use Rattle.seam_plan.proofs.parts.PartSplice.left_with.Goals as goal

pub left_in_slot-requires-clause-fits : goal.left_in_slot-requires-clause-fits
left_in_slot-requires-clause-fits c =
    subst (FitsBehind (window_of c.args.self.now.class.version) c.args.self.now.left)
    (ap (λ j. item_needs (joint_items j c.args.needs.now)) c.in-InSlot.is
    ∙ needs-items (needs_with_first_slot c.in-InSlot.slot c.args.needs.now)) c.requires.joint.fits

pub left_behind-requires-clause-fits : goal.left_behind-requires-clause-fits
left_behind-requires-clause-fits c =
    let lead : Need = record { header = c.in-Led.header; bytes = 0 } in
    subst (FitsBehind (window_of c.args.self.now.class.version) c.args.self.now.left)
    (ap (λ j. item_needs (joint_items j c.args.needs.now)) c.in-Led.is
    ∙ ap (λ l. lead ∷ l) (needs-items c.args.needs.now)) c.requires.joint.fits

pub returns-in-InSlot : goal.returns-in-InSlot
returns-in-InSlot c =
    subst (λ l. IsMostLeft (window_of c.args.self.now.class.version) c.args.self.now.left l
    c.left_in_slot.result) (sym (ap (λ j. item_needs (joint_items j c.args.needs.now))
    c.in-InSlot.is ∙ needs-items (needs_with_first_slot c.in-InSlot.slot c.args.needs.now)))
    c.left_in_slot.ensures

pub returns-in-Led : goal.returns-in-Led
returns-in-Led c =
    let lead : Need = record { header = c.in-Led.header; bytes = 0 } in
    subst (λ l. IsMostLeft (window_of c.args.self.now.class.version) c.args.self.now.left l
    c.left_behind.result) (sym (ap (λ j. item_needs (joint_items j c.args.needs.now)) c.in-Led.is
    ∙ ap (λ l. lead ∷ l) (needs-items c.args.needs.now))) c.left_behind.ensures
