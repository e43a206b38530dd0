-- The parts are what is before, between and after the stretches.
use Rattle.remove_laws.proofs.StayLemmas.{stay-in-parts}
use Rattle.remove_laws.proofs.stretch_laws.frames_in_no_stretch_stay.Goals as goal

pub returns : goal.returns
returns c = stay-in-parts
