-- The places from this one on.
use Rattle.best_plan.proofs.UnitSlopeLemmas.{IsFirstTo}
use Rattle.best_plan.proofs.unit_slope.append_first_areas.Given as goal

abbrev pub invariant-loop-place : goal.invariant-loop-place
invariant-loop-place l =
    IsFirstTo l.window l.bytes l.areas l.place l.initial.places.items l.places.items
