-- The word after the bytes so far.
use Rattle.std.proofs.Common.{take, ◌*◌, ◌≡◌}
use Rattle.bit_fields.specs.Bits.{bits}
use Rattle.side_info.specs.CheckWord.{remainder}
use Rattle.side_info.proofs.crc.crc_after_eights.Given as goal

abbrev pub invariant-loop-i : goal.invariant-loop-i
invariant-loop-i l = l.so_far ≡ remainder l.word (bits (take (8 * l.i) l.bytes))
