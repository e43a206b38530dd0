-- The points around the frame.
use Rattle.std.{proofs.Common.{ap, sym, ◌∙◌}, specs.Option.option_copied}
use Rattle.fade_plan.proofs.CurveLemmas.{first_kept, first_none, first_some, last_kept, last_none}
use Rattle.fade_plan.proofs.CurveLemmas.{last_some, parted_as, steps_of_first, steps_of_last}
use Rattle.fade_plan.proofs.{CurveLemmas.{steps_of_none, steps_of_two}, StepsLemmas.small_fits}
use Rattle.fade_plan.proofs.curve.steps_at.Goals as goal

pub steps_of_both-requires : goal.steps_of_both-requires
steps_of_both-requires c =
    let parted = parted_as c.requires.within c.requires.parted.0 c.requires.parted.1
    c.split_at.ensures.front c.split_at.ensures.back in
    let last =
    last_kept c.args.frame c.args.points.now c.split_at.result.0.now c.split_at.result.1.now
    c.in-Some-Some.before.now parted c.requires.kept (last_some c.split_at.result.0.now
    (sym (ap option_copied c.in-Some-Some.is-0) ∙ c.last.ensures.value)) in
    let first =
    first_kept
    c.in-Some-Some.behind.now parted c.requires.kept (first_some c.split_at.result.1.now
    (sym (ap option_copied c.in-Some-Some.is-1) ∙ c.first.ensures.value)) in
    record { kept = last.0; behind_kept = first.0; before = last.1; behind = first.1 }

pub returns-in-Some-Some-clause-steps : goal.returns-in-Some-Some-clause-steps
returns-in-Some-Some-clause-steps c =
    let parted = parted_as c.requires.within c.requires.parted.0 c.requires.parted.1
    c.split_at.ensures.front c.split_at.ensures.back in
    small_fits c.steps_of_both.ensures.most ∙ c.steps_of_both.ensures.steps
    ∙ sym (steps_of_two c.args.frame c.args.points.now c.split_at.result.0.now
    c.split_at.result.1.now c.in-Some-Some.before.now parted
    (last_some c.split_at.result.0.now (sym (ap option_copied c.in-Some-Some.is-0)
    ∙ c.last.ensures.value)) (first_some c.split_at.result.1.now
    (sym (ap option_copied c.in-Some-Some.is-1) ∙ c.first.ensures.value)))

pub returns-in-Some-None-clause-steps : goal.returns-in-Some-None-clause-steps
returns-in-Some-None-clause-steps c =
    let parted = parted_as c.requires.within c.requires.parted.0 c.requires.parted.1
    c.split_at.ensures.front c.split_at.ensures.back in
    let there = last_some c.split_at.result.0.now
    (sym (ap option_copied c.in-Some-None.is-0) ∙ c.last.ensures.value) in
    small_fits
    (last_kept c.args.frame c.args.points.now c.split_at.result.0.now c.split_at.result.1.now
    c.in-Some-None.last.now parted c.requires.kept there).0.sound.1
    ∙ sym (steps_of_last c.args.frame c.args.points.now c.split_at.result.0.now
    c.split_at.result.1.now c.in-Some-None.last.now parted there (first_none c.split_at.result.1.now
    (sym (ap option_copied c.in-Some-None.is-1) ∙ c.first.ensures.value)))

pub returns-in-None-Some-clause-steps : goal.returns-in-None-Some-clause-steps
returns-in-None-Some-clause-steps c =
    let parted = parted_as c.requires.within c.requires.parted.0 c.requires.parted.1
    c.split_at.ensures.front c.split_at.ensures.back in
    let there = first_some c.split_at.result.1.now
    (sym (ap option_copied c.in-None-Some.is-1) ∙ c.first.ensures.value) in
    small_fits
    (first_kept
    c.in-None-Some.first.now parted c.requires.kept there).0.sound.1
    ∙ sym (steps_of_first c.in-None-Some.first.now parted (last_none c.split_at.result.0.now
    (sym (ap option_copied c.in-None-Some.is-0) ∙ c.last.ensures.value)) there)

pub returns-in-None-None-clause-steps : goal.returns-in-None-None-clause-steps
returns-in-None-None-clause-steps c =
    let parted = parted_as c.requires.within c.requires.parted.0 c.requires.parted.1
    c.split_at.ensures.front c.split_at.ensures.back in
    sym (steps_of_none parted (last_none c.split_at.result.0.now
    (sym (ap option_copied c.in-None-None.is-0) ∙ c.last.ensures.value)) (first_none
    c.split_at.result.1.now (sym (ap option_copied c.in-None-None.is-1) ∙ c.first.ensures.value)))
