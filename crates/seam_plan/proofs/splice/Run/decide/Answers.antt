-- The first of the three that holds.
use Rattle.std.proofs.Common.{ap, arith, Some, subst, sym, ◌∙◌}
use Rattle.frame_header.specs.Fields.{HeaderFields}
use Rattle.seam_plan.proofs.JoinLemmas.{whole-fit}
use Rattle.seam_plan.proofs.SeamLemmas.{joint-first, joint-last, joint-second, whole_joint-is}
use Rattle.seam_plan.specs.Decisions.{AddedFramesFit, AreJoint, IsJoint}
use Rattle.seam_plan.specs.Seams.{following_joint, joint_without_lead_in, whole_joint}
use Rattle.seam_plan.specs.declared.seam.Seam.TheVariants.{Whole}
use Rattle.slot_plan.specs.declared.needs.Need.{Need}
use Rattle.seam_plan.proofs.splice.Run.decide.Goals as goal

pub returns-in-Some-clause-joint : goal.returns-in-Some-clause-joint
returns-in-Some-clause-joint c = λ class frames places before brought is brings same.
    joint-first (following_joint class frames before brought) _ _
    (subst (AreJoint (following_joint class frames before brought))
    c.in-Some.is (c.following.ensures.joint class frames places before brought is brings same))

pub returns-in-Some-without_lead_in-clause-joint : goal.returns-in-Some-without_lead_in-clause-joint
returns-in-Some-without_lead_in-clause-joint c =
    λ class frames places before brought is brings same.
    joint-second (following_joint class frames before brought)
    (joint_without_lead_in class frames brought) _
    (subst (AreJoint (following_joint class frames before brought))
    c.in_default.is (c.following.ensures.joint class frames places before brought is brings same))
    (subst (AreJoint (joint_without_lead_in class frames brought)) c.in-Some-without_lead_in.is
    (c.without_lead_in.ensures.joint class frames places before brought is brings))

pub returns-clause-joint : goal.returns-clause-joint
returns-clause-joint c = λ class frames places before brought is brings same.
    joint-last (following_joint class frames before brought)
    (joint_without_lead_in class frames brought)
    (subst (AreJoint (following_joint class frames before brought))
    c.in_default.is (c.following.ensures.joint class frames places before brought is brings same))
    (subst (AreJoint (joint_without_lead_in class frames brought)) c.in_default-without_lead_in.is
    (c.without_lead_in.ensures.joint class frames places before brought is brings))
    (subst (λ s. IsJoint (whole_joint brought) (record { seam = Whole; slot = Some s }))
    (sym (ap (λ (h : HeaderFields). h.slot) c.first.view_is
    ∙ ap (λ (n : Need). n.header.slot) (sym c.index-input-0.is)))
    (whole_joint-is brings
    c.requires.input.some c.index-input-0.is))

pub returns-clause-fits : goal.returns-clause-fits
returns-clause-fits c = record {
  out = omega arith;
  fit = subst
      (λ s. AddedFramesFit c.args.self.now.class c.args.self.now.left c.args.input.now.needs.now
      (Some s)) (sym (ap (λ (h : HeaderFields). h.slot) c.first.view_is
      ∙ ap (λ (n : Need). n.header.slot) (sym c.index-input-0.is)))
      (whole-fit c.args.self.now.class c.args.self.now.left c.args.input.now.needs.now
      c.requires.input.some c.index-input-0.is c.requires.input.fits);
}
