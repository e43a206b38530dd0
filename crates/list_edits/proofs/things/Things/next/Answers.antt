-- The next thing is the first of what is left: a block that isn't after the junk or the head, or
-- one of these.
use Rattle.std.proofs.Common.{refl, ◌∙◌}
use Rattle.list_edits.proofs.ThingsLemmas.{block_met, leading_things-met}
use Rattle.list_edits.specs.declared.things.Things.{Things}
use Rattle.list_edits.proofs.things.Things.next.Goals as goal

pub returns-in-Some-next_first_until : goal.returns-in-Some-next_first_until
returns-in-Some-next_first_until c =
    let t : Things = c.args.self.now in
    block_met t (record { junk = t.junk; head = t.head; others = c.next_first_until.new.self }) refl
    c.in-Some-next_first_until.ensures.met
    (rw (← c.in-Some.is) c.leading_offset.ensures)
    c.in-Some-next_first_until.ensures.until

pub returns-in-None : goal.returns-in-None
returns-in-None c =
    let t : Things = c.args.self.now in
    leading_things-met t c.next_leading.new.self c.next_leading.result c.in-Some.offset
    (rw (← c.in-Some.is) c.leading_offset.ensures) c.in-None.ensures.none
    (c.next_leading.ensures.same ∙ c.in-None.ensures.stays) c.next_leading.ensures.met
