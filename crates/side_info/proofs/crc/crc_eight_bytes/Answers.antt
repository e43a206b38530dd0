-- The tables have what the eight bytes leave.
use Rattle.std.proofs.Common.{arith, bit_xor}
use Rattle.side_info.proofs.CrcLemmas.{eight_list}
use Rattle.side_info.proofs.crc.crc_eight_bytes.Goals as goal

pub returns : goal.returns
returns c = grind (arith, bit_xor, eight_list)
