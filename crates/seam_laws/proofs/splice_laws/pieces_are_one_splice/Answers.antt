-- The splice is all frames of the pieces.
use Rattle.seam_laws.proofs.PieceSpliceLemmas.{pieces-one-splice}
use Rattle.seam_laws.proofs.splice_laws.pieces_are_one_splice.Goals as goal

pub returns : goal.returns
returns c = pieces-one-splice
