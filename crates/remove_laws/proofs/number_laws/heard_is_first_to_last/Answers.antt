-- What is heard goes on from part to part.
use Rattle.remove_laws.proofs.HeardPlaceLemmas.{first-to-last}
use Rattle.remove_laws.proofs.number_laws.heard_is_first_to_last.Goals as goal

pub returns : goal.returns
returns c = first-to-last
