-- The slot in which the frames join, or the lead-in before them.
use Rattle.std.proofs.Common.{subst}
use Rattle.frame_header.specs.Tables.{window_of}
use Rattle.seam_plan.proofs.PartJointLemmas.{in-slot-items, in-slot-joint, led-joint}
use Rattle.seam_plan.proofs.PartJointLemmas.{led-part-items}
use Rattle.slot_plan.specs.{FreeBytes.IsJoinSlot, Parts.AreNeedsOfClass}
use Rattle.seam_plan.proofs.parts.PartSplice.decide.Goals as goal

pub returns-in-Some-clause-items : goal.returns-in-Some-clause-items
returns-in-Some-clause-items c = λ class splice is.
    let same = subst (λ k. AreNeedsOfClass k c.args.needs.now) is.of_class c.requires.part.same in
    in-slot-items class is.known is.left c.args.needs.now c.in-Some.slot
    same (subst (IsJoinSlot (window_of class.version) c.args.self.now.left c.args.needs.now)
    c.in-Some.is (c.joins.ensures class same))

pub returns-in-Some-clause-joint : goal.returns-in-Some-clause-joint
returns-in-Some-clause-joint c =
    let class = c.args.self.now.class in
    in-slot-joint c.args.needs.now
    (subst (IsJoinSlot (window_of class.version) c.args.self.now.left c.args.needs.now)
    c.in-Some.is (c.joins.ensures class c.requires.part.same))

pub returns-in-None-clause-items : goal.returns-in-None-clause-items
returns-in-None-clause-items c = λ class splice is.
    let same = subst (λ k. AreNeedsOfClass k c.args.needs.now) is.of_class c.requires.part.same in
    led-part-items class is.known is.left c.args.needs.now same
    (subst (IsJoinSlot (window_of class.version) c.args.self.now.left c.args.needs.now)
    c.in-None.is (c.joins.ensures class same)) (c.lead_in.ensures class same)

pub returns-in-None-clause-joint : goal.returns-in-None-clause-joint
returns-in-None-clause-joint c =
    let class = c.args.self.now.class in
    led-joint c.args.needs.now c.requires.sound.most
    c.requires.part (c.lead_in.ensures class c.requires.part.same)
