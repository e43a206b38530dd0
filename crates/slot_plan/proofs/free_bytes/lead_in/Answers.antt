-- The least slot that has what the frames want. There is one.
use Rattle.std.proofs.Common.{arith, false, refl, ◌∙◌}
use Rattle.frame_header.proofs.HeaderLemmas.{IsClass-class_of}
use Rattle.slot_plan.proofs.JoinLemmas.{lead-enough, lead-of, least-in, rising-all}
use Rattle.slot_plan.proofs.PartLemmas.{same-class}
use Rattle.slot_plan.proofs.free_bytes.lead_in.Goals as goal

pub least_slot_among-slot-requires-clause-rising : goal.least_slot_among-slot-requires-clause-rising
least_slot_among-slot-requires-clause-rising c =
    rising-all (c.as_slice.ensures.value
    ∙ c.slots-slots.ensures.slots) (c.slots-slots.ensures.ascending false)

pub least_slot_among-slot-requires-clause-enough : goal.least_slot_among-slot-requires-clause-enough
least_slot_among-slot-requires-clause-enough c =
    grind (arith, same-class, IsClass-class_of, lead-enough)

pub returns : goal.returns
returns c = λ class same.
    let least = least-in
    c.from.ensures c.class-class.ensures refl
    (c.as_slice.ensures.value ∙ c.slots-slots.ensures.slots) c.least_slot_among-slot.ensures in
    lead-of class c.requires.fits c.requires.some same
    c.index-needs-0.is c.wants.ensures least c.unprotected.ensures
