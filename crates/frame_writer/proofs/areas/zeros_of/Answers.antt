-- The first of all zeros.
use Rattle.std.proofs.lemmas.List.{take-replicate}
use Rattle.frame_writer.proofs.areas.zeros_of.Goals as goal

pub returns : goal.returns
returns c = take-replicate c.args.count 8192 0 c.requires
