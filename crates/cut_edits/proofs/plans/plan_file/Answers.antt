-- The chosen frames can be laid by their plan, which has at most one place more than frames.
use Rattle.std.proofs.Common.{ap, arith, drop, length, subst, sym, ◌-◌}
use Rattle.std.proofs.lemmas.List.{length-map, length-take}
use Rattle.cut_edits.proofs.ChosenLemmas.{by_usual, plan-few, plan-fitting}
use Rattle.cut_edits.specs.Chosen.{chosen_in, chosen_needs, chosen_rows}
use Rattle.frame_header.specs.Tables.{window_of}
use Rattle.laying.specs.{Fits.IsFittingPlan, Needs.need_of}
use Rattle.sync_survey.specs.Faults.{survey_view}
use Rattle.cut_edits.proofs.plans.plan_file.Goals as goal

pub new-requires-clause-few : goal.new-requires-clause-few
new-requires-clause-few c =
    let s = survey_view c.args.survey.now in
    let chosen = chosen_in c.args.chosen.now in
    let few = plan-few chosen s
    c.requires.laid.placed c.requires.some c.requires.within (by_usual c.args.least) in
    omega (
      arith,
      few,
      length-map (chosen_rows chosen s) need_of,
      length-take (chosen.to - chosen.from) (drop chosen.from s.frames),
      c.requires.few,
      c.requires.within,
      ap length c.in_ok-plan.ensures,
    )

pub new-requires-clause-fitting : goal.new-requires-clause-fitting
new-requires-clause-fitting c =
    let s = survey_view c.args.survey.now in
    let chosen = chosen_in c.args.chosen.now in
    subst (IsFittingPlan (window_of s.class.version) (chosen_needs chosen s))
    (sym c.in_ok-plan.ensures)
    (plan-fitting chosen s
    c.requires.laid.placed c.requires.some c.requires.within (by_usual c.args.least))

pub returns : goal.returns
returns c = grind arith
