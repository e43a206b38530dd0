-- The two digits are in the table.
use Rattle.std.proofs.Common.{refl}
use Rattle.list_edits.proofs.PairsLemmas.{pair_at}
use Rattle.list_edits.proofs.line.pair.Goals as goal

pub returns : goal.returns
returns c = let p = pair_at c.requires in rw (p.0, p.1) refl
