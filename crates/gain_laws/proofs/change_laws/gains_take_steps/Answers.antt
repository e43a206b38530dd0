-- The law, from the gains that leave the range.
use Rattle.gain_laws.proofs.TakenStepLemmas.{take_steps}
use Rattle.gain_laws.proofs.change_laws.gains_take_steps.Goals as goal

pub returns : goal.returns
returns c = take_steps
