-- The head of a piece counts its samples.
use Rattle.info_laws.proofs.PieceTextLemmas.{pieces-agree}
use Rattle.info_laws.proofs.laws.piece_texts_agree.Goals as goal

pub returns : goal.returns
returns c = pieces-agree
