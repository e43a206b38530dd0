-- Each frame has the opposite steps.
use Rattle.gain_laws.proofs.OppositeLemmas.{opposite_envelope-curves}
use Rattle.gain_laws.proofs.curve_laws.opposite_curves.Goals as goal

pub returns : goal.returns
returns c = opposite_envelope-curves
