-- The table has what the largest of all slots has.
use Rattle.std.proofs.Common.{ap, length, subst, sym, ◌+◌, ◌<◌, ◌≤◌}
use Rattle.frame_header.specs.{Slots.all_slots, Tables.overhead_of}
use Rattle.slot_plan.{proofs.TableLemmas.table-within, specs.Parts.slot_areas}
use Rattle.slot_plan.specs.Reserve.{greatest_number}
use Rattle.slot_plan.proofs.policy.LeastPolicy.least_slot_by.Goals as goal

pub least_slot-requires : goal.least_slot-requires
least_slot-requires c =
    let table = c.args.table.now in
    let protected = c.args.header.now.protected in
    let enough : c.args.wanted ≤ greatest_number (slot_areas table.lengths protected all_slots) =
    subst (λ k. c.args.wanted ≤ greatest_number (slot_areas k protected all_slots))
    (sym c.requires.table.class_is) c.requires.enough in
    let within =
    table-within protected c.requires.table.of_slots enough in
    record {
      within =
          subst (λ p. c.args.wanted + overhead_of table.lengths p < length table.by_length.items)
          (ap (λ h. h.protected) (sym c.header.view_is)) within;
    }
