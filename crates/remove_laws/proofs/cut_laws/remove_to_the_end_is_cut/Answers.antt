-- The plan of one part is that of its frames.
use Rattle.remove_laws.proofs.CutLemmas.{remove-is-cut}
use Rattle.remove_laws.proofs.cut_laws.remove_to_the_end_is_cut.Goals as goal

pub returns : goal.returns
returns c = remove-is-cut
