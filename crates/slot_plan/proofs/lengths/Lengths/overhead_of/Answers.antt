-- An overhead has at most 38 bytes.
use Rattle.std.proofs.Common.{arith}
use Rattle.slot_plan.proofs.LengthLemmas.{overhead-most}
use Rattle.slot_plan.proofs.lengths.Lengths.overhead_of.Goals as goal

pub returns-then-protected-clause-most : goal.returns-then-protected-clause-most
returns-then-protected-clause-most c = grind (arith, overhead-most)

pub returns-else-protected-clause-most : goal.returns-else-protected-clause-most
returns-else-protected-clause-most c = grind (arith, overhead-most)
