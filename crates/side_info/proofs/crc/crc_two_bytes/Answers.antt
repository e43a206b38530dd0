-- The tables have what the two bytes leave.
use Rattle.std.proofs.Common.{arith, bit_xor}
use Rattle.side_info.proofs.CrcLemmas.{remainder-two}
use Rattle.side_info.proofs.crc.crc_two_bytes.Goals as goal

pub returns : goal.returns
returns c = grind (arith, bit_xor, remainder-two)
