-- As many of the least areas of each version as a window spans.
use Rattle.frame_writer.proofs.FrameLemmas.{few-wait}
use Rattle.frame_writer.proofs.laws.few_frames_wait.Goals as goal

pub returns : goal.returns
returns c = few-wait
