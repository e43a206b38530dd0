-- The frames that were taken, and after them those that wait.
use Rattle.frame_writer.proofs.FrameLemmas.{laid-steps}
use Rattle.frame_writer.proofs.laws.laid_steps.Goals as goal

pub returns : goal.returns
returns c = laid-steps
