-- The anchored frame, if it is usable.
use Rattle.std.proofs.Common.{sym, ◌∙◌}
use Rattle.salvage.proofs.{SearchLemmas.header_of, UsableLemmas.{frame_judged, none_anchored}}
use Rattle.sync_survey.proofs.StepLemmas.{room_shown}
use Rattle.salvage.proofs.usable.Role.anchored.Goals as goal

pub returns-in_default-clause-frame : goal.returns-in_default-clause-frame
returns-in_default-clause-frame c =
    λ file shows. none_anchored shows
    c.args.self.now (sym c.in_default.is ∙ c.anchored_frame.ensures.frame file shows)

pub admits-requires : goal.admits-requires
admits-requires c = record {
  own = header_of c.args.front.now c.in-Some.ensures.header;
  room = room_shown c.args.front.now c.in-Some.ensures.header
      c.in-Some.ensures.within c.requires.many;
}

pub returns-then-admits-clause-frame : goal.returns-then-admits-clause-frame
returns-then-admits-clause-frame c = λ file shows.
    frame_judged shows c.args.self.now
    (c.in-Some.ensures.frame file shows)
    c.in-Some.ensures.offset c.in-Some.ensures.header (sym c.admits.ensures ∙ c.if-admits.true)

pub returns-else-admits-clause-frame : goal.returns-else-admits-clause-frame
returns-else-admits-clause-frame c = λ file shows.
    frame_judged shows c.args.self.now
    (c.in-Some.ensures.frame file shows)
    c.in-Some.ensures.offset c.in-Some.ensures.header (sym c.admits.ensures ∙ c.if-admits.false)
