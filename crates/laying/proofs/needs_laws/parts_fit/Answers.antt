-- Several parts can be planned.
use Rattle.laying.proofs.PartsLemmas.{parts-fit}
use Rattle.laying.proofs.needs_laws.parts_fit.Goals as goal

pub returns : goal.returns
returns c = parts-fit
