-- As in the folder inside.
use Rattle.outside.proofs.KeptLemmas.{kept_reads, kept_there}
use Rattle.outside.proofs.kept_folder.KeptFolderFolder.read.Goals as goal

pub read-requires : goal.read-requires
read-requires g c = kept_there _ _ c.requires

pub returns : goal.returns
returns g c = record { answer = kept_reads _ c.read.ensures.answer }
