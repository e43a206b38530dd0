-- Two channels.
use Rattle.std.proofs.Common.{arith}
use Rattle.side_info.proofs.SideLemmas.{pair_sum}
use Rattle.side_info.proofs.side.pair_bits.Goals as goal

pub returns-clause-sum : goal.returns-clause-sum
returns-clause-sum c = grind (arith, pair_sum)
