-- The splice is the frames of the span from the first place to the last.
use Rattle.exact_laws.proofs.ExactJoinLemmas.{exact-joins}
use Rattle.exact_laws.proofs.laws.exact_split_then_seamless_join.Goals as goal

pub returns : goal.returns
returns c = exact-joins
