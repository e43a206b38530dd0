-- There is no header at the places that were passed.
use Rattle.std.proofs.Common.{ℕ, ◌<◌, ◌≤◌}
use Rattle.salvage.specs.Steps.{HasNoHeader}
use Rattle.salvage.proofs.search.find_begin.Given as goal

abbrev pub invariant-loop-at : goal.invariant-loop-at
invariant-loop-at l = record {
  none : (k : ℕ) → l.from ≤ k → k < l.at → HasNoHeader l.front k;
}
