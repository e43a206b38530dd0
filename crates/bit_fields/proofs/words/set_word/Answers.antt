-- Eight bytes are written again.
use Rattle.std.proofs.Common.{arith}
use Rattle.bit_fields.proofs.{BitsLemmas.bits-to_be_bytes_8, WordLemmas.put_bytes}
use borrow.Rule.Slice.PartMut.{Post-is}
use Rattle.bit_fields.proofs.words.set_word.Goals as goal

pub returns : goal.returns
returns c = grind (arith, Post-is, put_bytes, bits-to_be_bytes_8)
