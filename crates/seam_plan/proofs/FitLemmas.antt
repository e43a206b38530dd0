-- The test whether frames fit after free bytes finds whether they do.
use Rattle.std.{proofs.Common.{arith, List, ℕ}, specs.Bool.Decides}
use Rattle.seam_plan.specs.Joins.{fits_behind}
use Rattle.slot_plan.proofs.FreeByteLemmas.{feasible-fit, fit-feasible}
use Rattle.slot_plan.{proofs.LeastPlanLemmas.{fit-has, has-fit}, specs.FreeBytes.FitsBehind}
use Rattle.slot_plan.specs.declared.needs.Need.{Need}

-- the test whether frames fit after free bytes finds whether they do
pub fits-tested : (window free : ℕ) (needs : List Need)
    → Decides (fits_behind window free needs) (FitsBehind window free needs)
fits-tested window free needs = grind (arith, feasible-fit, has-fit, fit-has, fit-feasible)
