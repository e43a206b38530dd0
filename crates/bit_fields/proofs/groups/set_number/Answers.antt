-- One byte more, from the last to the first.
use Rattle.std.proofs.Common.{arith, length-set}
use Rattle.bit_fields.proofs.GroupBytesLemmas.{left_more, write_more, write_none}
use Rattle.bit_fields.proofs.groups.set_number.Goals as goal

pub loop-i-init : goal.loop-i-init
loop-i-init c = grind (arith, write_none)

pub loop-i-preserved : goal.loop-i-preserved
loop-i-preserved c = grind (arith, length-set, write_more, left_more)
