use Rattle.std.proofs.Common.{arith}
use Rattle.outside.proofs.FilesLemmas.{appended_is}
use Rattle.outside.proofs.memory.folder.MemFolderFolder.write.Goals as goal

pub returns-clause-answer : goal.returns-clause-answer
returns-clause-answer c = grind (arith, appended_is)
