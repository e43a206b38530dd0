-- The areas of all slots ascend.
use Rattle.std.proofs.Common.{false, ◌∙◌}
use Rattle.slot_plan.proofs.AreaLemmas.{lead-any, lead-ascend}
use Rattle.slot_plan.proofs.table.SlotTable.of_class.Goals as goal

pub new-requires : goal.new-requires
new-requires c =
    let all = c.as_slice.ensures.value ∙ c.slots-slots.ensures.slots in
    record {
      some = lead-any all;
      ascending = lead-ascend c.args.class all
          (c.slots-slots.ensures.ascending false);
    }
