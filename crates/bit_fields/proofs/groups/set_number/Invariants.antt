-- The bytes from i on have the low bits of the number; the others are left.
use Rattle.std.proofs.Common.{drop, length, ◌*◌, ◌-◌, ◌/◌, ◌^◌, ◌≡◌}
use Rattle.bit_fields.specs.Bits.{bits, bits_of}
use Rattle.bit_fields.proofs.groups.set_number.Given as goal

abbrev pub invariant-loop-i : goal.invariant-loop-i
invariant-loop-i l = record {
  written : bits (drop l.i l.bytes) ≡ bits_of (8 * (length l.bytes - l.i)) l.window;
  left : l.rest ≡ l.window / 2 ^ (8 * (length l.bytes - l.i));
}
