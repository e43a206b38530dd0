-- Nothing is lost between parts, and what they lose is in no part.
use Rattle.remove_laws.proofs.LengthLemmas.{plays-left}
use Rattle.remove_laws.proofs.play_laws.what_is_left_is_played.Goals as goal

pub returns : goal.returns
returns c = plays-left
