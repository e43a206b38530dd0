-- Command by command.
use Rattle.legality.proofs.LegalLemmas.{legal-is-accepted}
use Rattle.legality.proofs.laws.legal_is_accepted.Goals as goal

pub returns : goal.returns
returns c = legal-is-accepted
