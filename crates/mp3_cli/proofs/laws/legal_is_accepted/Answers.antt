-- Command by command.
use Rattle.mp3_cli.proofs.LegalLemmas.{legal-is-accepted}
use Rattle.mp3_cli.proofs.laws.legal_is_accepted.Goals as goal

pub returns : goal.returns
returns c = legal-is-accepted
