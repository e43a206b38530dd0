-- As many bits are left as the bytes have after the place.
use Rattle.std.proofs.Common.{length-drop}
use Rattle.bit_fields.proofs.BitsLemmas.{length-bits}
use Rattle.bit_fields.proofs.reader.Bits.left.Goals as goal

pub returns : goal.returns
returns c = rw (← c.self.view_is) (simp (length-drop, length-bits))
