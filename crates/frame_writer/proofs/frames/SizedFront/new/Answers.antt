-- The area fits in 16 bits.
use Rattle.std.proofs.Common.{arith}
use Rattle.frame_writer.proofs.FrameLemmas.{area-range}
use Rattle.frame_writer.proofs.frames.SizedFront.new.Goals as goal

pub overflow_cast-result : goal.overflow_cast-result
overflow_cast-result c = grind (arith, area-range)
