-- A part of a well-formed stream has its layout.
use Rattle.laying.proofs.NeedsFitLemmas.{part-fits}
use Rattle.laying.proofs.needs_laws.part_fits.Goals as goal

pub returns : goal.returns
returns c = part-fits
