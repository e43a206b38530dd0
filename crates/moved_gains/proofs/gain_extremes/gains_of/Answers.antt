-- The frames are passed in order, and what is found is the least and the greatest of the list.
use Rattle.std.proofs.Common.{arith}
use Rattle.moved_gains.proofs.ExtremesLemmas.{extremes-all, extremes-empty, extremes-from}
use Rattle.moved_gains.proofs.ExtremesLemmas.{joined_extremes-assoc, moving-nil, no_extremes}
use Rattle.moved_gains.proofs.ExtremesLemmas.{no_first, some_extremes}
use Rattle.moved_gains.proofs.gain_extremes.gains_of.Goals as goal

pub returns-in_default-clause-value : goal.returns-in_default-clause-value
returns-in_default-clause-value c = grind (arith, extremes-empty)

pub returns-in_default-clause-none : goal.returns-in_default-clause-none
returns-in_default-clause-none c = grind (arith, no_first, moving-nil)

pub loop-row-preserved : goal.loop-row-preserved
loop-row-preserved c = grind (arith, extremes-from, joined_extremes-assoc)

pub returns-clause-value : goal.returns-clause-value
returns-clause-value c = grind (arith, extremes-all)

pub returns-clause-some : goal.returns-clause-some
returns-clause-some c = grind (arith, some_extremes, extremes-all)

pub returns-clause-none : goal.returns-clause-none
returns-clause-none c = grind (arith, no_extremes, extremes-all)
