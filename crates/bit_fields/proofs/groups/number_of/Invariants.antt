-- The bytes so far, as one number.
use Rattle.std.proofs.Common.{take, ◌≡◌}
use Rattle.bit_fields.specs.Bits.{bits, number}
use Rattle.bit_fields.proofs.groups.number_of.Given as goal

abbrev pub invariant-loop-byte : goal.invariant-loop-byte
invariant-loop-byte l = l.window ≡ number (bits (take l.byte-index l.bytes))
