-- The points around the frame are the two points that it is between.
use Rattle.gain_laws.proofs.EvenLemmas.{curves-go-evenly}
use Rattle.gain_laws.proofs.curve_laws.curves_go_evenly.Goals as goal

pub returns : goal.returns
returns c = curves-go-evenly
