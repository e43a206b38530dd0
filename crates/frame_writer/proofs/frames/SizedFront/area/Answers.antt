-- No area is empty, and none is longer than a frame.
use Rattle.std.proofs.Common.{arith}
use Rattle.frame_writer.proofs.FrameLemmas.{area-range}
use Rattle.frame_writer.proofs.frames.SizedFront.area.Goals as goal

pub returns-clause-some : goal.returns-clause-some
returns-clause-some c = grind (arith, area-range)

pub returns-clause-most : goal.returns-clause-most
returns-clause-most c = grind (arith, area-range)
