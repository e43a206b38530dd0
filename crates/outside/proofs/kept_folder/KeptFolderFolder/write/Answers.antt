-- As in the folder inside.
use Rattle.outside.proofs.KeptLemmas.{kept_there, kept_writes}
use Rattle.outside.proofs.kept_folder.KeptFolderFolder.write.Goals as goal

pub write-requires : goal.write-requires
write-requires g c = kept_there _ _ c.requires

pub returns : goal.returns
returns g c = record { answer = kept_writes _ c.write.ensures.answer }
