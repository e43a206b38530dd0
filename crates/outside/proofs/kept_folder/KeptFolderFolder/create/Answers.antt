-- As in the folder inside.
use Rattle.outside.proofs.KeptLemmas.{kept_creates, kept_fresh}
use Rattle.outside.proofs.kept_folder.KeptFolderFolder.create.Goals as goal

pub returns-clause-answer : goal.returns-clause-answer
returns-clause-answer g c = kept_creates _ c.create_new.ensures.answer

pub returns-clause-fresh : goal.returns-clause-fresh
returns-clause-fresh g c =
    λ keeps. kept_fresh c.args.self.now.folder.ghost_name c.create_new.ensures.answer
