-- The plan's list is one of those among which the best is the shortest.
use Rattle.best_plan.proofs.ShortestListLemmas.{best-shortest}
use Rattle.best_plan.proofs.laws.best_is_shortest.Goals as goal

pub returns : goal.returns
returns c = best-shortest
