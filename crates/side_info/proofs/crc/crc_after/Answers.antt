-- The bytes after the last eight follow one at a time.
use Rattle.std.proofs.Common.{arith, length-drop, take-append-drop, take_all}
use Rattle.side_info.proofs.CrcLemmas.{remainder-bits_append}
use Rattle.side_info.proofs.crc.crc_after.Goals as goal

pub returns : goal.returns
returns c = grind (arith, take_all, length-drop, remainder-bits_append, take-append-drop)
