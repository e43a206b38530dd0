use Rattle.std.proofs.Common.{arith}
use Rattle.outside.proofs.BufferOutputLemmas.{piece_waits}
use Rattle.outside.proofs.write_buffer.WriteBuffer.push_made.Goals as goal

pub returns-then-free-ge-MOST_IN_PLACE : goal.returns-then-free-ge-MOST_IN_PLACE
returns-then-free-ge-MOST_IN_PLACE g c = grind (arith, piece_waits)
