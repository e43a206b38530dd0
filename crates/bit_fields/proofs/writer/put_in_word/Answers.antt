-- The eight bytes are written again.
use Rattle.std.proofs.Common.{arith}
use Rattle.bit_fields.proofs.{BitsLemmas.bits-to_be_bytes_8, GroupBytesLemmas.write_group}
use Rattle.bit_fields.proofs.writer.put_in_word.Goals as goal

pub returns : goal.returns
returns c = grind (arith, write_group, bits-to_be_bytes_8)
