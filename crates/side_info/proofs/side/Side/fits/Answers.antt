-- Side information fits if its parts do.
use Rattle.std.proofs.Common.{arith}
use Rattle.side_info.proofs.SideLemmas.{SideFits-from_parts}
use Rattle.side_info.proofs.side.Side.fits.Goals as goal

pub returns-then-pair_fits : goal.returns-then-pair_fits
returns-then-pair_fits c = grind (arith, SideFits-from_parts)
