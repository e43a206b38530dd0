-- One more number of free bytes.
use Rattle.std.proofs.Common.{arith}
use Rattle.best_plan.proofs.RowLemmas.{row-more}
use Rattle.best_plan.proofs.rows.append_row.Goals as goal

pub loop-free-preserved : goal.loop-free-preserved
loop-free-preserved c = search (arith, row-more)
