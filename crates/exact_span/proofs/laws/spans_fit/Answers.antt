-- No played position is after the last frame.
use Rattle.exact_span.proofs.PlayedLemmas.{spans-fit}
use Rattle.exact_span.proofs.laws.spans_fit.Goals as goal

pub returns : goal.returns
returns c = spans-fit
