-- The Info frame counts from the first position to the last.
use Rattle.seam_laws.proofs.JoinEndLemmas.{ends-kept}
use Rattle.seam_laws.proofs.join_laws.joins_keep_their_ends.Goals as goal

pub returns : goal.returns
returns c = ends-kept
