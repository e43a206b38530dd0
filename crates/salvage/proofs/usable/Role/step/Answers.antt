-- The item that is passed, if it is read.
use Rattle.std.proofs.Common.{sym, ◌∙◌}
use Rattle.salvage.proofs.{SearchLemmas.header_of, UsableLemmas.{item_judged, none_read}}
use Rattle.sync_survey.proofs.StepLemmas.{room_passed}
use Rattle.salvage.proofs.usable.Role.step.Goals as goal

pub returns-in_default-clause-read : goal.returns-in_default-clause-read
returns-in_default-clause-read c =
    λ file shows. none_read shows c.args.self.now (c.in_default.ensures.step file c.args.at shows)

pub admits_item-requires : goal.admits_item-requires
admits_item-requires c = record {
  own = λ h frame. header_of c.args.front.now (sym c.in-Some.ensures.passes.item ∙ frame);
  room = room_passed c.in-Some.ensures.passes c.requires.many;
}

pub returns-then-admits_item-clause-read : goal.returns-then-admits_item-clause-read
returns-then-admits_item-clause-read c = λ file shows.
    item_judged shows c.args.self.now
    c.in-Some.ensures.passes (sym c.admits_item.ensures ∙ c.if-admits_item.true)

pub returns-else-admits_item-clause-read : goal.returns-else-admits_item-clause-read
returns-else-admits_item-clause-read c = λ file shows.
    item_judged shows c.args.self.now
    c.in-Some.ensures.passes (sym c.admits_item.ensures ∙ c.if-admits_item.false)
