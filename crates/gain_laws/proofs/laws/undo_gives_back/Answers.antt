-- The law, from what the file is after each change.
use Rattle.gain_laws.proofs.UndoneGainLemmas.{gains_undone}
use Rattle.gain_laws.proofs.laws.undo_gives_back.Goals as goal

pub returns : goal.returns
returns c = gains_undone
