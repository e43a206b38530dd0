-- One part can be planned.
use Rattle.laying.proofs.PartsLemmas.{one-part-fits}
use Rattle.laying.proofs.needs_laws.one_part_fits.Goals as goal

pub returns : goal.returns
returns c = one-part-fits
