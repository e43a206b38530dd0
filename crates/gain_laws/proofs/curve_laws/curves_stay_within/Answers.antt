-- Each frame has the steps of a point, or steps between the steps of two points.
use Rattle.gain_laws.proofs.WithinLemmas.{steps_of_one, steps_within}
use Rattle.gain_laws.proofs.curve_laws.curves_stay_within.Goals as goal

pub returns : goal.returns
returns c = record { all = steps_within; one = steps_of_one }
