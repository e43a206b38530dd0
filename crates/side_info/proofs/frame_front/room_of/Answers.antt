-- The zeros that stay are those after the side information.
use Rattle.std.proofs.{Common.arith, lemmas.List.length-take-le}
use Rattle.side_info.specs.FrontBytes.{padded_side}
use Rattle.side_info.proofs.frame_front.room_of.Goals as goal

pub returns : goal.returns
unfolding padded_side
returns c = grind (arith, length-take-le)
