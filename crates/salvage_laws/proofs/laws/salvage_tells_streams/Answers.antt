-- Island by island, and all together.
use Rattle.std.proofs.Common.{arith}
use Rattle.salvage.proofs.{LaidOutLemmas.{damaged_of-is, read-laid}, StreamLemmas.stream-told}
use Rattle.salvage_laws.proofs.laws.salvage_tells_streams.Goals as goal

pub returns : goal.returns
returns c file d e = grind (arith, damaged_of-is, stream-told, read-laid)
