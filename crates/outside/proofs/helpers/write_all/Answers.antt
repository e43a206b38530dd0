use Rattle.std.proofs.Common.{arith, length-drop}
use Rattle.outside.proofs.FilesLemmas.{appended_nothing, appended_there}
use Rattle.outside.proofs.PieceLemmas.{part_from, with_appended_bytes-then}
use Rattle.outside.proofs.helpers.write_all.Goals as goal

pub loop-done-init : goal.loop-done-init
loop-done-init g c = grind (arith, appended_nothing)

pub loop-done-preserved : goal.loop-done-preserved
loop-done-preserved g c =
    grind (arith, with_appended_bytes-then, part_from, length-drop, appended_there)
