-- What is packed from the whole window.
use Rattle.std.proofs.Common.{arith}
use Rattle.drill.proofs.DrawsLemmas.{packed-first}
use Rattle.drill.proofs.frames.pack.Goals as goal

pub returns-clause-payload : goal.returns-clause-payload
returns-clause-payload c = grind (arith, packed-first)
