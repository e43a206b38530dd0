-- A lead-in that is left out is empty.
use Rattle.seam_laws.proofs.LeftOutLemmas.{left-out-empty}
use Rattle.seam_laws.proofs.join_laws.left_out_is_empty.Goals as goal

pub returns : goal.returns
returns c = left-out-empty
