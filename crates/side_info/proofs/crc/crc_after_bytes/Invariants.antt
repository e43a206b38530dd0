-- The word after the bytes so far.
use Rattle.std.proofs.Common.{take, ◌≡◌}
use Rattle.bit_fields.specs.Bits.{bits}
use Rattle.side_info.specs.CheckWord.{remainder}
use Rattle.side_info.proofs.crc.crc_after_bytes.Given as goal

abbrev pub invariant-loop-byte : goal.invariant-loop-byte
invariant-loop-byte l = l.so_far ≡ remainder l.word (bits (take l.byte-index l.bytes))
