-- Of all slots the last has the largest area, and a header's own is one of them.
use Rattle.std.proofs.Common.{ap, ap₂, subst, ◌∙◌}
use Rattle.frame_header.proofs.{HeaderLemmas.IsClass-class_of, SlotLemmas.Contains-all_slots}
use Rattle.frame_header.specs.{Fields.{IsHeader, IsSlot}, Slots.largest_slot}
use Rattle.frame_header.specs.Tables.{area_of, class_of}
use Rattle.slot_plan.proofs.AreaLemmas.{greatest_number-all}
use Rattle.slot_plan.proofs.policy.LeastPolicy.largest_area_by.Goals as goal

pub returns : goal.returns
returns c = record {
  largest = c.area_of.ensures.area
      ∙ ap₂ (λ k p. area_of k largest_slot p)
      c.requires.class (ap (λ h. h.protected) c.header.view_is)
      ∙ greatest_number-all (class_of c.args.header.now) c.args.header.now.protected
      (IsClass-class_of (subst IsHeader c.header.view_is c.header.invariant));
  own = Contains-all_slots c.args.header.now.slot
      (subst (λ h. IsSlot h.slot) c.header.view_is c.header.invariant.slot);
}
