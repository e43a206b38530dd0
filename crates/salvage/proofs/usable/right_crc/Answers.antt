-- The right check word is the one for the header and the side information that are read there.
use Rattle.std.proofs.{Common.{arith, length-drop}, lemmas.List.length-take}
use Rattle.salvage.proofs.UsableLemmas.{header_four, side_protected}
use Rattle.salvage.proofs.usable.right_crc.Goals as goal

pub returns : goal.returns
returns c = grind (arith, length-take, length-drop, header_four, side_protected)
