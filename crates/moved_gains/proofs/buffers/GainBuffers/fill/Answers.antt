use Rattle.std.proofs.Common.{arith, length-drop, length-take}
-- All is there already.
use Rattle.outside.proofs.BufferOutputLemmas.{passed_nothing}
use Rattle.moved_gains.proofs.buffers.GainBuffers.fill.Goals as goal

pub returns-then-n-self : goal.returns-then-n-self
returns-then-n-self g c = grind (arith, passed_nothing, length-take, length-drop)
