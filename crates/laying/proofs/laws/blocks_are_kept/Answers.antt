-- Each kept block is one of the file.
use Rattle.laying.proofs.HoldLemmas.{blocks-kept}
use Rattle.laying.proofs.laws.blocks_are_kept.Goals as goal

pub returns : goal.returns
returns c = blocks-kept
