-- If the content of the files is known, all bytes come.
use Rattle.std.proofs.{Common.arith, lemmas.List.take_all}
use Rattle.outside.proofs.FilesLemmas.{nothing_told}
use Rattle.outside.proofs.exact.read_exact.Goals as goal

pub returns-in-Ok : goal.returns-in-Ok
returns-in-Ok g c = grind (arith, nothing_told)

pub returns-in-Ok-2 : goal.returns-in-Ok-2
returns-in-Ok-2 g c = grind (arith, take_all)
