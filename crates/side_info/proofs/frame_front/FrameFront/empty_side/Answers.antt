-- Bits that are all 0 fit each class.
use Rattle.std.proofs.Common.{subst, sym}
use Rattle.frame_header.specs.Tables.{class_of}
use Rattle.side_info.{proofs.SideLemmas.SideFits-no_side, specs.Side.SideFits}
use Rattle.side_info.proofs.frame_front.FrameFront.empty_side.Goals as goal

pub new-requires : goal.new-requires
new-requires c = subst (SideFits (class_of c.header.result)) (sym c.empty.ensures)
    (SideFits-no_side (class_of c.header.result))
