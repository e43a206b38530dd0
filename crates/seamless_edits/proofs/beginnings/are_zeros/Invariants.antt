-- The bytes so far are 0.
use Rattle.std.{proofs.Common.{take, true, ◌==◌, ◌≡◌}, specs.List.list_all}
use Rattle.bit_fields.specs.Bits.{bits}
use Rattle.seamless_edits.proofs.beginnings.are_zeros.Given as goal

abbrev pub invariant-loop-byte : goal.invariant-loop-byte
invariant-loop-byte l = list_all (λ bit. bit == 0) (bits (take l.byte-index l.bytes)) ≡ true
