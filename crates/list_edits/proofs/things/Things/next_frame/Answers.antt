-- The first of what is left is a frame.
use Rattle.std.proofs.Common.{ap, sym, [], ◌∙◌, ◌∷◌, ◌≡◌}
use Rattle.list_edits.proofs.ThingsLemmas.{frame_met, leading_things-none}
use Rattle.list_edits.specs.Things.{leading_things, things_left}
use Rattle.list_edits.specs.declared.things.{Thing.TheVariants.Frame, Things.Things}
use Rattle.list_edits.proofs.things.Things.next_frame.Goals as goal

pub returns-clause-met : goal.returns-clause-met
returns-clause-met c =
    let t : Things = c.args.self.now in
    let new : Things = record { junk = t.junk; head = t.head; others = c.next_second.new.self } in
    let none : leading_things t ≡ [] =
    leading_things-none t (sym c.is_some.ensures ∙ c.if-is_some.false)
    (sym c.is_some-2.ensures ∙ c.if-is_some-2.false) in
    frame_met t new none none c.in_ok-row.ensures.met c.in_ok-row.ensures.order
    ∙ ap (λ n. Frame n c.in_ok-row.row.now ∷ things_left new) (sym c.seconds_met-number.ensures)
