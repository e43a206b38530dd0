-- The frames can be laid by the plan.
use Rattle.std.proofs.{Common.{ap, arith, Ok, sym, ◌∙◌}, lemmas.List.length-map}
use Rattle.commands.specs.Refusing.{then_made}
use Rattle.cut_edits.specs.Chosen.{chosen_in, chosen_rows, placed_part}
use Rattle.laying.specs.Needs.{need_of}
use Rattle.pack_edits.proofs.{ModeLemmas.{allowed-most, mode-fitting}, PlanLemmas.rows-few}
use Rattle.sync_survey.specs.Faults.{survey_view}
use Rattle.pack_edits.proofs.plans.plan_packed.Goals as goal

pub new-requires-clause-few : goal.new-requires-clause-few
new-requires-clause-few c =
    let s = survey_view c.args.survey.now in
    let chosen = chosen_in c.args.chosen.now in
    let is = mode-fitting chosen s c.requires.laid.placed c.requires.some c.requires.within
    c.args.mode c.in_ok-plan.ensures in
    omega (
      arith,
      is.few,
      length-map (chosen_rows chosen s) need_of,
      rows-few chosen s c.requires.laid.placed c.requires.some c.requires.within,
      c.requires.few,
      allowed-most c.args.mode,
    )

pub new-requires-clause-fitting : goal.new-requires-clause-fitting
new-requires-clause-fitting c =
    (mode-fitting (chosen_in c.args.chosen.now) (survey_view c.args.survey.now)
    c.requires.laid.placed c.requires.some c.requires.within c.args.mode
    c.in_ok-plan.ensures).fitting

pub returns-clause-laid : goal.returns-clause-laid
returns-clause-laid c =
    ap (λ r. then_made r (λ placed. Ok (placed_part (chosen_in c.args.chosen.now) placed)))
    c.in_ok-plan.ensures ∙ ap Ok (sym c.new.ensures.laid)
