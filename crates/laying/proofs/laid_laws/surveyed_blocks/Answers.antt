-- A block is known by its own bytes.
use Rattle.laying.proofs.BlockLemmas.{surveyed-blocks}
use Rattle.laying.proofs.laid_laws.surveyed_blocks.Goals as goal

pub returns : goal.returns
returns c = surveyed-blocks
