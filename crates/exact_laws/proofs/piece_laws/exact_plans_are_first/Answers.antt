-- A span is laid by the plan that the planner returns for it.
use Rattle.exact_laws.proofs.PieceReadLemmas.{exact-plans-first}
use Rattle.exact_laws.proofs.piece_laws.exact_plans_are_first.Goals as goal

pub returns : goal.returns
returns c = exact-plans-first
