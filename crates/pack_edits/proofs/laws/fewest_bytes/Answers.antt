-- Files of the same frames differ in length only by the lengths of their slots.
use Rattle.pack_edits.proofs.PackedLengthLemmas.{bytes-fewest}
use Rattle.pack_edits.proofs.laws.fewest_bytes.Goals as goal

pub returns : goal.returns
returns c = bytes-fewest
