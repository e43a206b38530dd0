-- What is heard is from the first heard position to the last, and so is what is played.
use Rattle.remove_laws.proofs.PlayLemmas.{plays-heard}
use Rattle.remove_laws.proofs.play_laws.heard_is_played.Goals as goal

pub returns : goal.returns
returns c = plays-heard
