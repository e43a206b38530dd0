-- One bit rate index more.
use Rattle.std.proofs.Common.{arith}
use Rattle.frame_header.proofs.SlotLemmas.{areas-ascend, Contains-all_slots, slots_to-all}
use Rattle.frame_header.proofs.SlotLemmas.{slots_to-more, slots_to-none}
use Rattle.frame_header.proofs.class.Class.slots.Goals as goal

pub loop-rate_index-init : goal.loop-rate_index-init
loop-rate_index-init c = grind (arith, slots_to-none)

pub loop-rate_index-preserved : goal.loop-rate_index-preserved
loop-rate_index-preserved c = grind (arith, slots_to-more)

pub returns-clause-slots : goal.returns-clause-slots
returns-clause-slots c = grind (arith, slots_to-all)

pub returns-clause-all : goal.returns-clause-all
returns-clause-all c = Contains-all_slots

pub returns-clause-ascending : goal.returns-clause-ascending
returns-clause-ascending c = grind (arith, areas-ascend)
