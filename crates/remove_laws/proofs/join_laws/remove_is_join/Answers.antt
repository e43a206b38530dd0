-- The pieces of the split that stay are the parts, each in a file of its own.
use Rattle.remove_laws.proofs.SplitPieceLemmas.{removal-joins}
use Rattle.remove_laws.proofs.join_laws.remove_is_join.Goals as goal

pub returns : goal.returns
returns c = removal-joins
