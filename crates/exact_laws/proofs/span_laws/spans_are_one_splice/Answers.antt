-- The splice is all frames of the spans.
use Rattle.exact_laws.proofs.SpanSpliceLemmas.{spans-one-splice}
use Rattle.exact_laws.proofs.span_laws.spans_are_one_splice.Goals as goal

pub returns : goal.returns
returns c = spans-one-splice
