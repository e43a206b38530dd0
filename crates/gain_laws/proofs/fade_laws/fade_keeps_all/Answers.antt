-- The law, from the lemma for every change.
use Rattle.gain_laws.proofs.KeptFadeLemmas.{fade_kept}
use Rattle.gain_laws.proofs.fade_laws.fade_keeps_all.Goals as goal

pub returns : goal.returns
returns c = fade_kept
