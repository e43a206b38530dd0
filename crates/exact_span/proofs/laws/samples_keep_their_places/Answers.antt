-- By what the piece's head counts.
use Rattle.exact_span.proofs.PlayedLemmas.{places-kept}
use Rattle.exact_span.proofs.laws.samples_keep_their_places.Goals as goal

pub returns : goal.returns
returns c = places-kept
