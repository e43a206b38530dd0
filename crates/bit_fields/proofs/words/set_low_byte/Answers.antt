-- One byte is set.
use Rattle.bit_fields.proofs.WordLemmas.{bits-set}
use Rattle.bit_fields.proofs.words.set_low_byte.Goals as goal

pub returns : goal.returns
returns c = bits-set c.args.bytes.now c.args.word c.requires
