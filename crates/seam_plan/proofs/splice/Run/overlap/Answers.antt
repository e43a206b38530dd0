-- The shared frames are in the input, and few of them must be alike.
use Rattle.std.{proofs.Common.{length, rules, Some, subst, ◌≡◌, ◌≤◌}, specs.Prelude.IfSome}
use Rattle.exact_span.specs.PlayedPositions.{AreCounted, longest_rest}
use Rattle.seam_plan.proofs.SpliceLemmas.{can-follow}
use Rattle.seam_plan.proofs.splice.Run.overlap.Goals as goal

pub returns-clause-can : goal.returns-clause-can
returns-clause-can c =
    let played : c.args.input.now.played ≡ Some c.in_ok-played.played = search rules in
    let rest : c.args.self.now.rest ≡ Some c.in_ok-rest.rest = search rules in
    let counted =
    subst (λ o. IfSome o (AreCounted c.args.self.now.class (length c.args.input.now.needs.now)))
    played c.requires.input.counted in
    let most = subst (λ o. IfSome o (λ r. r ≤ longest_rest)) rest c.requires.sound.rest in
    can-follow c.args.self.now.class c.args.input.now c.shared.result c.shared.ensures.overlap
    c.shared.ensures.within (c.shared.ensures.short counted.start most)
