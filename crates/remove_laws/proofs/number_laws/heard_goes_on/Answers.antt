-- What is heard goes on where others are written behind.
use Rattle.exact_span.proofs.HeardLemmas.{heard-append}
use Rattle.remove_laws.proofs.number_laws.heard_goes_on.Goals as goal

pub returns : goal.returns
returns c = heard-append
