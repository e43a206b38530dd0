-- The bits of four bytes are the bits of their number.
use Rattle.std.proofs.Common.{arith}
use Rattle.bit_fields.proofs.BitsLemmas.{AreBytes-from_places, bits-be_bytes}
use Rattle.frame_header.proofs.header.word_at.Goals as goal

pub returns : goal.returns
returns c = grind (arith, bits-be_bytes, AreBytes-from_places)
