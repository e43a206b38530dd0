-- If the last of them is up to the frame, all are.
use Rattle.std.proofs.Common.{arith}
use Rattle.fade_plan.proofs.CurveLemmas.{all_up_to}
use Rattle.fade_plan.proofs.curve.all_up_to.Goals as goal

pub returns : goal.returns
returns c last = grind (arith, all_up_to)
