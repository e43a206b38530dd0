-- Neither a header of the class nor a block begins like this.
use Rattle.std.proofs.Common.{arith}
use Rattle.salvage.proofs.RawHeaderLemmas.{not_anchor}
use Rattle.salvage.proofs.raw_header.may_anchor.Goals as goal

pub returns-else-may_follow_header : goal.returns-else-may_follow_header
returns-else-may_follow_header c = grind (arith, not_anchor)
