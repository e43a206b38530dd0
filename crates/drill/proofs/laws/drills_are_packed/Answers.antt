-- The packed file holds what was drawn.
use Rattle.drill.proofs.PackedLemmas.{drills-packed}
use Rattle.drill.proofs.laws.drills_are_packed.Goals as goal

pub returns : goal.returns
returns c = drills-packed
