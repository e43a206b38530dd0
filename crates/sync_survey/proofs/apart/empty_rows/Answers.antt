-- One more frame becomes an empty one, or is unchanged.
use Rattle.std.proofs.Common.{arith}
use Rattle.sync_survey.proofs.ApartRowLemmas.{emptied-step}
use Rattle.sync_survey.proofs.apart.empty_rows.Goals as goal

pub loop-row-preserved : goal.loop-row-preserved
loop-row-preserved c = grind (arith, emptied-step)
