-- One byte more.
use Rattle.std.proofs.Common.{arith, sym}
use Rattle.bit_fields.proofs.BitsLemmas.{bits-nil, number-nil}
use Rattle.bit_fields.proofs.GroupBytesLemmas.{read_more, read_small}
use Rattle.bit_fields.proofs.groups.number_of.Goals as goal

pub loop-byte-init : goal.loop-byte-init
loop-byte-init c = rw bits-nil (sym number-nil)

pub overflow_mul-window : goal.overflow_mul-window
overflow_mul-window c = grind (arith, read_small)

pub overflow_add-window : goal.overflow_add-window
overflow_add-window c = grind (arith, read_small)

pub loop-byte-preserved : goal.loop-byte-preserved
loop-byte-preserved c = grind (arith, read_more)
