-- The places before are within.
use Rattle.std.proofs.Common.{get_or, ℕ, ◌<◌}
use Rattle.plan_tests.proofs.tests.checked.are_within.Given as goal

abbrev pub invariant-loop-place : goal.invariant-loop-place
invariant-loop-place l = (k d : ℕ) → k < l.place-index → get_or l.places k d < l.count
