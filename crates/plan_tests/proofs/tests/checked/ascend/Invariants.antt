-- The numbers before ascend.
use Rattle.std.proofs.Common.{get_or, ℕ, ◌+◌, ◌<◌}
use Rattle.plan_tests.proofs.tests.checked.ascend.Given as goal

abbrev pub invariant-loop-at : goal.invariant-loop-at
invariant-loop-at l = (k : ℕ) → k + 1 < l.at → get_or l.numbers k 0 < get_or l.numbers (k + 1) 0
