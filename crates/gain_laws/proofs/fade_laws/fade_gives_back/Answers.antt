-- The law, since both fades together are no step.
use Rattle.gain_laws.proofs.TakenBackLemmas.{back_again, command_back}
use Rattle.gain_laws.proofs.fade_laws.fade_gives_back.Goals as goal

pub returns-clause-bytes : goal.returns-clause-bytes
returns-clause-bytes c = back_again

pub returns-clause-command : goal.returns-clause-command
returns-clause-command c = command_back
