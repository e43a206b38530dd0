-- The quotient is no larger than the steps.
use Rattle.std.proofs.Common.{subst, sym, unsigned_abs, ◌≤◌}
use Rattle.fade_plan.proofs.StepsLemmas.{evenly, size_between}
use Rattle.fade_plan.proofs.curve.rounded_steps.Goals as goal

pub returns-clause-steps : goal.returns-clause-steps
returns-clause-steps c = evenly c.ranges.sum c.requires.few c.requires.small

pub returns-clause-most : goal.returns-clause-most
returns-clause-most c =
    subst (λ q. unsigned_abs q ≤ 255)
    (sym (evenly c.ranges.sum c.requires.few c.requires.small))
    (size_between c.args.sum c.args.frames c.requires.small)
