-- The largest slot is in the menu.
use Rattle.pack_edits.proofs.FloorLemmas.{floors-fit}
use Rattle.pack_edits.proofs.laws.floors_fit.Goals as goal

pub returns : goal.returns
returns c = floors-fit
