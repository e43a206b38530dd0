-- The frames so far are marked, and each of them is silent or lost.
use Rattle.sync_survey.proofs.ApartRowLemmas.{AreMarkedTo}
use Rattle.sync_survey.proofs.apart.mark_rows.Given as goal

abbrev pub invariant-loop-row : goal.invariant-loop-row
invariant-loop-row l = AreMarkedTo l.initial.rows l.rows l.areas l.row-index
