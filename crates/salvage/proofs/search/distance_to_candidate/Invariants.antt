-- There is no usable anchored frame at the places that were passed.
use Rattle.std.proofs.Common.{max, ℕ, ◌-◌, ◌<◌, ◌≤◌}
use Rattle.salvage.specs.Steps.{HasNoUsableFrame}
use Rattle.salvage.proofs.search.distance_to_candidate.Given as goal

abbrev pub invariant-loop-at : goal.invariant-loop-at
invariant-loop-at l = record {
  none : (k : ℕ) → 1 ≤ k → k < l.at → HasNoUsableFrame l.role l.offset l.front k;
  some : 1 ≤ l.at;
  few : l.at ≤ max l.end 1;
}

abbrev pub decreases-loop-at : goal.decreases-loop-at
decreases-loop-at l = l.end - l.at
