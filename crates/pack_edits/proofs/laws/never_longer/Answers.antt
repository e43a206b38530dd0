-- The plan of the plain packing is among the plans of which the best is the shortest.
use Rattle.pack_edits.proofs.PackedLengthLemmas.{longer-never}
use Rattle.pack_edits.proofs.laws.never_longer.Goals as goal

pub returns : goal.returns
returns c = longer-never
