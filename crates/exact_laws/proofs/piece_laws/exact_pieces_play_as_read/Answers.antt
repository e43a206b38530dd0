-- The file of a piece is read as an input of a join, which is a span of the recording.
use Rattle.exact_laws.proofs.PieceReadLemmas.{exact-pieces-play}
use Rattle.exact_laws.proofs.piece_laws.exact_pieces_play_as_read.Goals as goal

pub returns : goal.returns
returns c = exact-pieces-play
