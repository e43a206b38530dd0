-- The frames are one part.
use Rattle.std.proofs.Common.{arith}
use Rattle.rate_plan.proofs.{FitLemmas.{laid-feasible, top_frame}, PlacingLemmas.menu-part}
use Rattle.slot_plan.proofs.FreeByteLemmas.{window-most}
use Rattle.rate_plan.proofs.planning.fit_plan.Goals as goal

pub place_part-requires : goal.place_part-requires
place_part-requires c = grind (arith, top_frame, laid-feasible, window-most)

pub returns : goal.returns
returns c = grind (arith, menu-part)
