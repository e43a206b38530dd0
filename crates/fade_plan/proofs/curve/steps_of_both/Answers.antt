-- The sum is no larger than the greatest steps times the number of frames.
use Rattle.std.proofs.Common.{ap, arith, int_div, pos, subst, sym, unsigned_abs, ◌*ℤ◌, ◌+ℤ◌, ◌*◌}
use Rattle.std.proofs.Common.{◌+◌, ◌-◌, ◌<◌, ◌^◌, ◌∙◌, ◌≡◌, ◌≤◌}
use Rattle.fade_plan.proofs.StepsLemmas.{size_of_weighted, small_fits, weighted_sum}
use Rattle.fade_plan.proofs.curve.steps_of_both.Goals as goal

pub rounded_steps-requires-clause-small : goal.rounded_steps-requires-clause-small
rounded_steps-requires-clause-small c =
    let p = c.args.before.now in
    let q = c.args.behind.now in
    let left = q.frame - c.args.frame in
    let passed = c.args.frame - p.frame in
    let all : passed + left ≡ q.frame - p.frame =
    omega (arith, c.requires.before, c.requires.behind) in
    let few : left + passed < 2 ^ 48 =
    omega (arith, c.requires.before, c.requires.behind, c.requires.behind_kept.frame) in
    let small = c.requires.kept.sound.1 in
    let other = c.requires.behind_kept.sound.1 in
    subst (λ s. unsigned_abs s ≤ 255 * (q.frame - p.frame))
    (sym (weighted_sum p.steps q.steps left passed small other
    (c.weighted-left.ensures ∙ ap (λ s. s *ℤ pos left) (small_fits small))
    (c.weighted-passed.ensures ∙ ap (λ s. s *ℤ pos passed) (small_fits other)) few))
    (subst (λ n. unsigned_abs ((p.steps *ℤ pos left) +ℤ (q.steps *ℤ pos passed)) ≤ 255 * n) all
    (size_of_weighted p.steps q.steps left passed small other))

pub returns-clause-steps : goal.returns-clause-steps
returns-clause-steps c = grind (arith, small_fits, int_div, pos, weighted_sum)
