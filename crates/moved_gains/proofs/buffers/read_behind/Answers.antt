-- What was kept, and what was read after it.
use Rattle.std.proofs.{Common.{arith, length-drop}, Math.Seq.take-add}
use Rattle.std.proofs.lemmas.{List.{drop-drop, length-take-le}, Slice.take-put_mid}
use Rattle.moved_gains.proofs.buffers.read_behind.Goals as goal

pub returns : goal.returns
returns g c = grind (arith, length-take-le, length-drop, drop-drop, take-put_mid, take-add)
