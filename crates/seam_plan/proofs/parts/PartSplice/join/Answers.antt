-- The splice that continues with the part.
use Rattle.std.proofs.Common.{arith, subst}
use Rattle.frame_header.specs.{Fields.ClassFields, Tables.window_of}
use Rattle.seam_plan.specs.PartSplices.{item_needs, joint_items}
use Rattle.slot_plan.{proofs.FreeByteLemmas.left-on, specs.FreeBytes.IsMostLeft}
use Rattle.seam_plan.proofs.parts.PartSplice.join.Goals as goal

pub returns-clause-goes_on : goal.returns-clause-goes_on
returns-clause-goes_on c = λ class splice is.
    let window = window_of class.version in
    let items = item_needs (joint_items c.decide-joint.result c.args.needs.now) in
    let left = subst (λ (k : ClassFields). IsMostLeft (window_of k.version) c.args.self.now.left
    items c.left_with-self.result) is.of_class c.left_with-self.ensures in
    record {
      known = is.known;
      of_class = is.of_class;
      left = (left-on window window c.args.self.now.left c.left_with-self.result splice items
          (omega arith) is.left).1 left;
    }
