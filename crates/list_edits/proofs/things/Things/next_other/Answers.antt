-- The next entry of the walk over blocks and frames is the first of what is left.
use Rattle.std.proofs.Common.{ap, Some, subst, sym, ◌∙◌, ◌∷◌}
use Rattle.list_edits.proofs.ThingsLemmas.{block_alone, frame_met, none_met}
use Rattle.list_edits.specs.{Things.things_left, declared.things.Thing.TheVariants.Frame}
use Rattle.list_edits.specs.declared.things.Things.{Things}
use Rattle.sync_survey.specs.{Merge.Meets, Row.Row, declared.merge.Entry.Entry}
use Rattle.sync_survey.specs.declared.merge.{Entry.TheVariants.{First, Second}, Merge.Merge}
use Rattle.sync_survey.specs.declared.places.Piece.{Piece}
use Rattle.list_edits.proofs.things.Things.next_other.Goals as goal

abbrev IsMet : Merge Piece Row → Merge Piece Row → Entry Piece Row → Type 0
IsMet old new e = Meets (λ p. p.offset) (λ r. r.offset) old (Some e) new

pub returns-in-First : goal.returns-in-First
returns-in-First c =
    let t : Things = c.args.self.now in
    let new : Things = record { junk = t.junk; head = t.head; others = c.next.new.self } in
    let met : IsMet t.others new.others (First c.in-First.piece) =
    subst (IsMet t.others new.others) c.in-First.is c.in_ok-piece.ensures in
    block_alone t new c.requires c.requires met.0 met.1

pub returns-in-Second : goal.returns-in-Second
returns-in-Second c =
    let t : Things = c.args.self.now in
    let new : Things = record { junk = t.junk; head = t.head; others = c.next.new.self } in
    let met : IsMet t.others new.others (Second c.in-Second.row) =
    subst (IsMet t.others new.others) c.in-Second.is c.in_ok-piece.ensures in
    frame_met t new c.requires c.requires met.0 met.1
    ∙ ap (λ n. Frame n c.in-Second.row ∷ things_left new) (sym c.seconds_met-number.ensures)

pub returns-in_err-piece : goal.returns-in_err-piece
returns-in_err-piece c = rw c.from_residual.ensures
    (none_met c.args.self.now c.requires c.in_err-piece.ensures.0 c.in_err-piece.ensures.1)
