use Rattle.std.proofs.Common.{arith, length-drop}
use Rattle.outside.proofs.{FilesLemmas.sent_nothing, PieceLemmas.{part_from, sent_then}}
use Rattle.outside.proofs.helpers.send_all.Goals as goal

pub loop-done-init : goal.loop-done-init
loop-done-init g c = grind (arith, sent_nothing)

pub loop-done-preserved : goal.loop-done-preserved
loop-done-preserved g c = grind (arith, part_from, length-drop, sent_then)
