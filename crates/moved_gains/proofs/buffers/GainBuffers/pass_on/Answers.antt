-- What is held begins later.
use Rattle.std.proofs.{Common.arith, lemmas.List.length-take}
use Rattle.moved_gains.proofs.BufferLemmas.{held_later}
use Rattle.moved_gains.proofs.buffers.GainBuffers.pass_on.Goals as goal

pub returns-clause-held : goal.returns-clause-held
returns-clause-held c = grind (arith, length-take, held_later)
