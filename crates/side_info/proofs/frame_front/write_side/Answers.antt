-- The bits that are written are the bits of bytes.
use Rattle.std.proofs.Common.{arith}
use Rattle.bit_fields.proofs.BitsLemmas.{AreBytes-from_places, bytes-bits}
use Rattle.side_info.proofs.frame_front.write_side.Goals as goal

pub returns-clause-written : goal.returns-clause-written
returns-clause-written c = grind (arith, bytes-bits, AreBytes-from_places)
