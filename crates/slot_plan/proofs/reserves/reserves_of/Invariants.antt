-- The frames from i on have what they need.
use Rattle.std.{proofs.Common.{◌+◌, ◌≤◌}, specs.Prelude.{vec_capacity, vec_len}}
use Rattle.slot_plan.proofs.PartLemmas.{ReservesFrom}
use Rattle.slot_plan.proofs.reserves.reserves_of.Given as goal

abbrev pub invariant-loop-i : goal.invariant-loop-i
invariant-loop-i g l = record {
  room : vec_len l.behind + l.i ≤ vec_capacity l.behind;
  from : ReservesFrom l.window (g.O.Offer.slots_of l.offer)
      (g.O.Offer.some_area_of l.offer) l.part l.i l.behind.items l.before;
}
