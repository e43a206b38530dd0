-- What is after the first bytes.
use Rattle.std.proofs.{Common.{arith, length-drop}, lemmas.List.length-take-le}
use Rattle.frame_writer.proofs.BytesLemmas.{dropped}
use Rattle.frame_writer.proofs.bytes.ByteQueue.drop_first.Goals as goal

pub returns : goal.returns
returns c = grind (arith, length-take-le, length-drop, dropped)
