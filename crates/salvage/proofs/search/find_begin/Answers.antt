-- Where no header may begin, none does.
use Rattle.std.proofs.Common.{arith}
use Rattle.salvage.proofs.SearchLemmas.{bare_at, bare_more}
use Rattle.salvage.proofs.search.find_begin.Goals as goal

pub loop-at-preserved : goal.loop-at-preserved
loop-at-preserved c = grind (arith, bare_more, bare_at)
