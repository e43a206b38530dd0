-- What the planner returns for the chosen frames is their led plan.
use Rattle.std.proofs.{Common.{Bool, rules, subst, sym, true, ◌≡◌}, lemmas.Result.IfOk-weaker}
use Rattle.std.specs.Prelude.{IfOk}
use Rattle.cut_edits.proofs.SpanLemmas.{led-answer, led-can}
use Rattle.cut_edits.specs.{Chosen.{chosen_in, chosen_needs}, Exact.span_plan}
use Rattle.slot_plan.specs.Plans.{entries}
use Rattle.sync_survey.specs.Faults.{survey_view}
use Rattle.cut_edits.proofs.pieces.plan_piece.Goals as goal

pub plan_led-requires-clause-planned : goal.plan_led-requires-clause-planned
plan_led-requires-clause-planned c =
    let there = c.requires.there in
    rw (c.needs.ensures, c.in_ok-parts.ensures.parts)
    (led-can (chosen_in c.args.chosen.now)
    (survey_view c.args.survey.now) there.laid.placed there.some there.within)

pub returns-in_ok-parts : goal.returns-in_ok-parts
returns-in_ok-parts c =
    let there = c.requires.there in
    let s = survey_view c.args.survey.now in
    let needs = chosen_needs (chosen_in c.args.chosen.now) s in
    let on : c.args.led ≡ true = search rules in
    subst (λ (b : Bool). IfOk c.plan_led.result (λ plan. entries plan ≡ span_plan b s.class needs))
    (sym on)
    (IfOk-weaker c.plan_led.result _ _ (λ plan is. led-answer (chosen_in c.args.chosen.now) s
    there.laid.placed there.some there.within is.plan)
    (rw (c.needs.ensures, c.in_ok-parts.ensures.parts) at c.plan_led.ensures))
