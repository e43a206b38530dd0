-- The part is placed, after its lead-in if it needs free bytes.
use Rattle.std.proofs.{Common.arith, lemmas.Result.IfOk-weaker}
use Rattle.slot_plan.proofs.PlacedLemmas.{part-led, part-without}
use Rattle.slot_plan.proofs.placing.place_part.Goals as goal

pub returns-then-reserves-eq0-clause-placed : goal.returns-then-reserves-eq0-clause-placed
returns-then-reserves-eq0-clause-placed g c =
    IfOk-weaker c.place_frames.result _ _
    (λ after places. part-without c.args.room.window (g.O.Offer.lead_slots_of c.args.offer.now)
    (g.O.Offer.slots_of c.args.offer.now) (g.O.Offer.some_area_of c.args.offer.now)
    c.in_ok-reserves.ensures (omega (arith, c.if-reserves-eq0.true)) places)
    c.place_frames.ensures.placed

pub returns-clause-placed : goal.returns-clause-placed
returns-clause-placed g c =
    IfOk-weaker c.place_behind_lead_in.result _ _
    (λ after led. part-led c.args.room.window (g.O.Offer.lead_slots_of c.args.offer.now)
    (g.O.Offer.slots_of c.args.offer.now) (g.O.Offer.some_area_of c.args.offer.now)
    c.in_ok-reserves.ensures (omega (arith, c.if-reserves-eq0.false)) led)
    c.place_behind_lead_in.ensures.placed
