-- Each frame that is written from the first heard
-- position to the last is one of a part, or a lead-in.
use Rattle.remove_laws.proofs.PlaceLemmas.{plays-nothing_else}
use Rattle.remove_laws.proofs.play_laws.nothing_else_is_played.Goals as goal

pub returns : goal.returns
returns c = plays-nothing_else
