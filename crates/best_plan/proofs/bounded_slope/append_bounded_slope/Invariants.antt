-- The sums and places for fewer free bytes than those
-- with which an area before this one leaves enough.
use Rattle.best_plan.proofs.BoundedSlopeLemmas.{IsNearTo}
use Rattle.best_plan.proofs.bounded_slope.append_bounded_slope.Given as goal

abbrev pub invariant-loop-place : goal.invariant-loop-place
invariant-loop-place l = IsNearTo l.window l.bytes l.wanted l.areas l.row.later.now l.place l.start
    l.sums.items l.fn.places.items l.places.items
