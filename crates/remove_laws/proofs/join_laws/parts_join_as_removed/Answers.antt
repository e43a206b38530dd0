-- The splice of the pieces is the splice of the parts, with the same stream in the same places.
use Rattle.remove_laws.proofs.JoinRemovalLemmas.{parts-join}
use Rattle.remove_laws.proofs.join_laws.parts_join_as_removed.Goals as goal

pub returns : goal.returns
returns c = parts-join
