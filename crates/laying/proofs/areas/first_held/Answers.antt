-- One more frame is before those whose areas were counted.
use Rattle.std.proofs.Common.{arith}
use Rattle.laying.proofs.{ReadLemmas.place-next, RelayLemmas.read-at}
use Rattle.laying.proofs.areas.first_held.Goals as goal

pub loop-first-preserved : goal.loop-first-preserved
loop-first-preserved c = grind (arith, read-at, place-next)
