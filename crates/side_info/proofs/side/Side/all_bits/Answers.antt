-- Two granules.
use Rattle.std.proofs.Common.{arith}
use Rattle.side_info.proofs.SideLemmas.{payload_bits-sum}
use Rattle.side_info.proofs.side.Side.all_bits.Goals as goal

pub returns-clause-bits : goal.returns-clause-bits
returns-clause-bits c = grind (arith, payload_bits-sum)
