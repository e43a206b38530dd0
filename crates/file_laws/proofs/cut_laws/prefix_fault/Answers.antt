-- The first bytes of a file without fault and without junk.
use Rattle.file_laws.proofs.CutLemmas.{prefix-fault}
use Rattle.file_laws.proofs.cut_laws.prefix_fault.Goals as goal

pub returns : goal.returns
returns c = prefix-fault
