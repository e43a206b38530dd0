-- Each command lays its frames behind such an Info frame.
use Rattle.file_laws.proofs.WrittenFrameLemmas.{files-counted}
use Rattle.file_laws.proofs.written_laws.written_files_are_counted.Goals as goal

pub returns : goal.returns
returns c = files-counted
