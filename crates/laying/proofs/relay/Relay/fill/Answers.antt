-- The files stay, so the input has the same bytes.
use Rattle.std.proofs.Common.{arith}
use Rattle.frame_writer.proofs.WritingLemmas.{ok-both}
use Rattle.laying.proofs.PassLemmas.{ready-filled}
use Rattle.laying.proofs.relay.Relay.fill.Goals as goal

pub returns-clause-given : goal.returns-clause-given
returns-clause-given g c = grind (arith, ok-both)

pub returns-clause-reads : goal.returns-clause-reads
returns-clause-reads g c = grind (arith, ready-filled)
