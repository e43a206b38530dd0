-- The slots before this place are too small.
use Rattle.slot_plan.proofs.AreaLemmas.{AreSmall}
use Rattle.slot_plan.proofs.ascending.least_slot_among.Given as goal

abbrev pub invariant-loop-place : goal.invariant-loop-place
invariant-loop-place l = AreSmall l.fn.wanted l.fn.class l.fn.protected l.slots l.place
