-- The zeros that stay are those after the bytes.
use Rattle.std.proofs.Common.{ap₂, drop, length, List, ℕ, ◌++◌}
use Rattle.side_info.specs.FrontBytes.{padded_side}
use Rattle.side_info.proofs.frame_front.fill_short.Goals as goal

pub returns : goal.returns
unfolding padded_side
returns c = ap₂ (λ (xs zs : List ℕ). xs ++ drop (length c.args.part.now) zs)
    c.copy_from_slice.ensures.after c.requires.zeros
