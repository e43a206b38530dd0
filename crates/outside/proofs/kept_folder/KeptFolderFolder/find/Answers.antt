-- As in the folder inside.
use Rattle.outside.proofs.KeptLemmas.{kept_finds}
use Rattle.outside.proofs.kept_folder.KeptFolderFolder.find.Goals as goal

pub returns : goal.returns
returns g c = record { answer = kept_finds _ c.find.ensures.answer }
