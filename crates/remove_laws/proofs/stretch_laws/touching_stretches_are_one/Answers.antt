-- The disorder and the parts are those of one stretch.
use Rattle.remove_laws.proofs.TouchLemmas.{touching-one}
use Rattle.remove_laws.proofs.stretch_laws.touching_stretches_are_one.Goals as goal

pub returns : goal.returns
returns c = touching-one
