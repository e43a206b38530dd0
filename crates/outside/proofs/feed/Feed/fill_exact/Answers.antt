-- If the content of the files is known, all bytes come.
use Rattle.std.proofs.Common.{arith, length-drop, length-take}
use Rattle.outside.proofs.FilesLemmas.{nothing_told}
use Rattle.outside.proofs.feed.Feed.fill_exact.Goals as goal

pub returns-in-Ok : goal.returns-in-Ok
returns-in-Ok g c = search (arith, nothing_told, length-take, length-drop)
