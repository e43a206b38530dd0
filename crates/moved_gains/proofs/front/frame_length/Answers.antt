-- What is before the main data fits in every frame.
use Rattle.std.proofs.Common.{arith}
use Rattle.side_info.proofs.FrameLemmas.{overhead-most}
use Rattle.moved_gains.proofs.front.frame_length.Goals as goal

pub returns-clause-room : goal.returns-clause-room
returns-clause-room c = grind (arith, overhead-most)
