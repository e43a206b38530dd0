-- As in the folder inside.
use Rattle.outside.proofs.KeptLemmas.{kept_makes}
use Rattle.outside.proofs.kept_folder.KeptFolderFolder.create_new.Goals as goal

pub returns : goal.returns
returns g c = record { answer = kept_makes _ c.create_new.ensures.answer }
