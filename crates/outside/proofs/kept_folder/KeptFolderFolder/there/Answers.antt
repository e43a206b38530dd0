-- As in the folder inside.
use Rattle.outside.proofs.KeptLemmas.{kept_asks}
use Rattle.outside.proofs.kept_folder.KeptFolderFolder.there.Goals as goal

pub returns : goal.returns
returns g c = record { answer = kept_asks _ c.there.ensures.answer }
