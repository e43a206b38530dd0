-- The new tag is the first of its kind, where the old one was.
use Rattle.gain_laws.proofs.NewTagLemmas.{tagged-again}
use Rattle.gain_laws.proofs.tag_laws.tag_again.Goals as goal

pub returns : goal.returns
returns c = tagged-again
