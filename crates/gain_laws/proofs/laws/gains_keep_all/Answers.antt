-- The law, from the lemma for every change.
use Rattle.gain_laws.proofs.KeptGainLemmas.{gain_kept, undo_kept}
use Rattle.gain_laws.proofs.laws.gains_keep_all.Goals as goal

pub returns-clause-gain : goal.returns-clause-gain
returns-clause-gain c = gain_kept

pub returns-clause-undo : goal.returns-clause-undo
returns-clause-undo c = undo_kept
