-- The table has what the byte leaves.
use Rattle.std.proofs.Common.{arith, bit_xor}
use Rattle.side_info.proofs.CrcLemmas.{remainder-byte}
use Rattle.side_info.proofs.crc.crc_byte.Goals as goal

pub returns : goal.returns
returns c = grind (arith, bit_xor, remainder-byte)
