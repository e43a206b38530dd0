-- A whole item is passed, or none of the part is there whole.
use Rattle.std.proofs.{Common.{arith, sym, ◌∙◌}, lemmas.Bool.false≢true}
use Rattle.sync_survey.proofs.LooksLemmas.{not_here, sized, step_passes}
use Rattle.sync_survey.proofs.chains.step_at.Goals as goal

pub returns-then-not-belongs-clause-step : goal.returns-then-not-belongs-clause-step
returns-then-not-belongs-clause-step c = grind (arith, not_here, false≢true)

pub returns-then-own-left-clause-step : goal.returns-then-own-left-clause-step
returns-then-own-left-clause-step c = grind (arith, not_here)

pub returns-clause-step : goal.returns-clause-step
returns-clause-step c = λ file at shows.
    step_passes shows
    c.args.part c.passed-size.result c.item_front-item.result c.item_front-item.ensures
    (sym c.belongs.ensures ∙ c.if-not-belongs.false)
    (omega (arith, c.size-own.ensures.size, c.if-own-left.false))
    c.passed-size.ensures.zeros c.passed-size.ensures.size

pub returns-clause-passes : goal.returns-clause-passes
returns-clause-passes c =
    grind (
      arith,
      sized c.args.part c.args.front.now c.args.left c.passed-size.result c.item_front-item.ensures
          (sym c.belongs.ensures ∙
          c.if-not-belongs.false)
          (omega (arith, c.size-own.ensures.size, c.if-own-left.false)) c.requires
          c.passed-size.ensures.zeros c.passed-size.ensures.size,
    )
