-- The splice is the frames that were cut.
use Rattle.seam_laws.proofs.SplitLemmas.{split-joins}
use Rattle.seam_laws.proofs.laws.split_then_seamless_join.Goals as goal

pub returns : goal.returns
returns c = split-joins
