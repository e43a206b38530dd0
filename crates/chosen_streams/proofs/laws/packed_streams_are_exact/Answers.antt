-- The plan from a menu is for one part.
use Rattle.chosen_streams.proofs.MenuCaseLemmas.{packed-exact}
use Rattle.chosen_streams.proofs.laws.packed_streams_are_exact.Goals as goal

pub returns : goal.returns
returns c = packed-exact
