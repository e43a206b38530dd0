-- The bits so far.
use Rattle.std.{proofs.Common.◌≡◌, specs.Prelude.bit_xor}
use Rattle.exact_span.specs.TagWord.{arc_bits}
use Rattle.exact_span.proofs.crc.arc_byte.Given as goal

abbrev pub invariant-loop : goal.invariant-loop
invariant-loop l = l.next ≡ arc_bits l.counter (bit_xor l.word l.byte)
