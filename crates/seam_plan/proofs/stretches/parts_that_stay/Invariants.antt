-- What the stretches so far leave.
use Rattle.seam_plan.proofs.StayingLemmas.{StaysTo}
use Rattle.seam_plan.proofs.stretches.parts_that_stay.Given as goal

abbrev pub invariant-loop-from : goal.invariant-loop-from
invariant-loop-from l = StaysTo l.fn.frames l.stretches l.from-index l.before l.parts.items
