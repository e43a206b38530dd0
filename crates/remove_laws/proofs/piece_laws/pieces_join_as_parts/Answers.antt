-- Each piece joins as the part does.
use Rattle.remove_laws.proofs.PieceLemmas.{pieces-as-parts}
use Rattle.remove_laws.proofs.piece_laws.pieces_join_as_parts.Goals as goal

pub returns : goal.returns
returns c = pieces-as-parts
