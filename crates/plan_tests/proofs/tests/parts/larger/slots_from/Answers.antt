-- There are 28 slots in all.
use Rattle.std.proofs.Common.{ap, length, ◌∙◌}
use Rattle.frame_header.proofs.SlotLemmas.{length-all_slots}
use Rattle.plan_tests.proofs.tests.parts.larger.slots_from.Goals as goal

pub prove-unreachable-requires : goal.prove-unreachable-requires
prove-unreachable-requires c = c.if-prove.true
    (ap length (c.as_slice-all.ensures.value ∙ c.slots-all.ensures.slots) ∙ length-all_slots)
