-- The first frame is in the slot in which it joins, or behind its lead-in.
use Rattle.std.proofs.Common.{ap, drop, slice_set, sym, take, ◌++◌, ◌∙◌, ◌∷◌}
use Rattle.remove_edits.proofs.JoinLemmas.{put-first}
use Rattle.seam_plan.proofs.PartJointLemmas.{needs-items}
use Rattle.seam_plan.specs.PartSplices.{item_needs, joint_items}
use Rattle.slot_plan.specs.FreeBytes.{need_in_slot}
use Rattle.remove_edits.proofs.splice.DecidedSplice.join.Goals as goal

pub returns-in-InSlot-clause-needs : goal.returns-in-InSlot-clause-needs
returns-in-InSlot-clause-needs c =
    let needs = c.args.self.now.needs.items in
    ap (slice_set needs c.args.from)
    (c.in_slot.ensures ∙ ap (need_in_slot c.in-InSlot.slot) c.index.ensures)
    ∙ put-first c.in-InSlot.slot needs c.args.from c.index.result.now c.requires.within
    ∙ ap (λ j. take c.args.from needs ++ item_needs (joint_items j (drop c.args.from needs)))
    (sym c.in-InSlot.is)

pub returns-in_ok-insert-in-Led-clause-needs : goal.returns-in_ok-insert-in-Led-clause-needs
returns-in_ok-insert-in-Led-clause-needs c =
    rw c.in-Led.is (c.in_ok-insert-in-Led.ensures.items
    ∙ ap (λ l. take c.args.from c.args.self.now.needs.items
    ++ record { header = c.in-Led.header; bytes = 0 } ∷ l)
    (sym (needs-items (drop c.args.from c.args.self.now.needs.items))))
