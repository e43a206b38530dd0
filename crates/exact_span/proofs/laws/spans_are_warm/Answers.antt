-- By the number of granules in a frame.
use Rattle.exact_span.proofs.SpanLemmas.{spans-warm}
use Rattle.exact_span.proofs.laws.spans_are_warm.Goals as goal

pub returns : goal.returns
returns c = spans-warm
