-- None of the 32 zeros is left.
use Rattle.std.proofs.Common.{append-nil, arith}
use Rattle.side_info.specs.FrontBytes.{padded_side}
use Rattle.side_info.proofs.frame_front.fill.Goals as goal

pub returns-then-part-eq-MOST : goal.returns-then-part-eq-MOST
unfolding padded_side
returns-then-part-eq-MOST c = grind (arith, append-nil)
