-- By induction over the points.
use Rattle.exact_span.proofs.SplitLemmas.{pieces-whole}
use Rattle.exact_span.proofs.laws.pieces_are_the_whole.Goals as goal

pub returns : goal.returns
returns c = pieces-whole
