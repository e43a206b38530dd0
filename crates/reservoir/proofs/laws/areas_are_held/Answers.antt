-- By induction over the areas.
use Rattle.reservoir.proofs.FrameLemmas.{areas-held}
use Rattle.reservoir.proofs.laws.areas_are_held.Goals as goal

pub returns : goal.returns
returns c = areas-held
