-- If the first of them is after the frame, all are.
use Rattle.std.proofs.Common.{arith}
use Rattle.fade_plan.proofs.CurveLemmas.{all_behind}
use Rattle.fade_plan.proofs.curve.all_after.Goals as goal

pub returns : goal.returns
returns c first = grind (arith, all_behind)
