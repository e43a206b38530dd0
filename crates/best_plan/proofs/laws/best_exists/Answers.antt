-- The plan's list is one of those among which the best is.
use Rattle.best_plan.proofs.BestExistsLemmas.{best-exists}
use Rattle.best_plan.proofs.laws.best_exists.Goals as goal

pub returns : goal.returns
returns c = best-exists
