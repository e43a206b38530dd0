-- One more sum, and all.
use Rattle.std.proofs.{Common.arith, lemmas.List.length_push}
use Rattle.best_plan.proofs.RowLemmas.{zero-more}
use Rattle.best_plan.proofs.table.no_areas.Goals as goal

pub loop-preserved : goal.loop-preserved
loop-preserved c = grind (arith, length_push, zero-more)
