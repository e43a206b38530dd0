use Rattle.std.proofs.{Common.{arith, length-drop}, lemmas.List.drop-drop}
use Rattle.outside.proofs.PieceLemmas.{drop_refilled, drop_unread, front_kept, length_refilled}
use Rattle.outside.proofs.PieceLemmas.{part_from, take_refilled}
use Rattle.outside.proofs.helpers.read_on.Goals as goal

pub loop-done-preserved : goal.loop-done-preserved
loop-done-preserved g c =
    search (arith, part_from, length-drop, length_refilled, take_refilled, drop-drop, drop_refilled)

pub returns-then-got-eq0 : goal.returns-then-got-eq0
returns-then-got-eq0 g c = grind (arith, front_kept, part_from, length-drop, drop_unread)
