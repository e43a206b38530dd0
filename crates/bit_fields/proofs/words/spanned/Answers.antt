-- Both parts are put together.
use Rattle.std.proofs.Common.{arith}
use Rattle.bit_fields.proofs.WordLemmas.{spanned_below, spanned_bits}
use Rattle.bit_fields.proofs.words.spanned.Goals as goal

pub overflow_add-result : goal.overflow_add-result
overflow_add-result c = grind (arith, spanned_below)

pub returns : goal.returns
returns c = grind (arith, spanned_bits)
