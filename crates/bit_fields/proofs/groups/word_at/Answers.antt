-- The number of eight bytes is the big-endian one.
use Rattle.std.proofs.Common.{arith}
use Rattle.bit_fields.proofs.BitsLemmas.{number-bits-be_bytes_8}
use Rattle.bit_fields.proofs.groups.word_at.Goals as goal

pub returns : goal.returns
returns c = grind (arith, number-bits-be_bytes_8)
