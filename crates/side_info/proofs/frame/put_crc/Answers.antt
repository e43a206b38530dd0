-- Two bytes are overwritten.
use Rattle.std.proofs.Common.{arith}
use Rattle.side_info.proofs.FrameLemmas.{bytes-word}
use borrow.Rule.Slice.PartMut.{Post-is}
use Rattle.side_info.proofs.frame.put_crc.Goals as goal

pub returns : goal.returns
returns c = grind (arith, bytes-word, Post-is)
