-- The sums so far have `bytes` added, and the others are unchanged.
use Rattle.std.proofs.Common.{drop, map, take, ◌++◌, ◌+◌, ◌≡◌}
use Rattle.best_plan.proofs.unit_slope.add_to_all.Given as goal

abbrev pub invariant-loop-sum : goal.invariant-loop-sum
invariant-loop-sum l = l.sums
    ≡ map (λ n. n + l.bytes) (take l.sum-index l.initial.sums) ++ drop l.sum-index l.initial.sums
