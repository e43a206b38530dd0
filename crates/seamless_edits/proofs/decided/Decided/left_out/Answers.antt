-- The front's number comes first, and then the numbers of the seams.
use Rattle.std.proofs.Common.{ap, arith, drop, length, List, refl, suc, sym, zero, ℕ, ◌+◌, ◌-◌, ◌<◌}
use Rattle.std.proofs.Common.{◌∙◌, ◌∷◌, ◌≡◌, ◌≤◌}
use Rattle.joined_inputs.proofs.StepLemmas.{map-next}
use Rattle.seam_plan.specs.{Seams.left_out_count, declared.splice.Joint.Joint}
use Rattle.seamless_edits.specs.Deciding.{left_out_counts}
use Rattle.seamless_edits.proofs.decided.Decided.left_out.Goals as goal

-- behind the first of the numbers are the others
behind : (x : ℕ) (xs : List ℕ) (n y : ℕ) → (n ≡ 0 → ⊥)
    → drop (n - 1) xs ≡ y ∷ drop (n - 1 + 1) xs → drop n (x ∷ xs) ≡ y ∷ drop (n + 1) (x ∷ xs)
behind x xs zero y some is = absurd (some refl)
behind x xs (suc n) y some is =
    let back : suc n - 1 ≡ n = omega arith in
    let more : suc n + 1 ≡ suc (n + 1) = omega arith in
    rw back at is ∙ ap (λ m. y ∷ drop m (x ∷ xs)) (sym more)

within : (n m : ℕ) → (n ≡ 0 → ⊥) → n ≤ m → n - 1 < m
within zero m some few = absurd (some refl)
within (suc n) m some few = omega (arith, few)

pub returns-else-place-eq0 : goal.returns-else-place-eq0
returns-else-place-eq0 c =
    let joints = c.args.self.now.joints.items in
    let place = c.args.place in
    let some = c.if-place-eq0.false in
    behind c.args.self.now.front (left_out_counts joints) place c.left_out.result some
    (map-next (λ (j : Joint). left_out_count j.seam) joints
    (within place (length joints) some c.requires) c.index.ensures
    ∙ ap (λ m. m ∷ drop (place - 1 + 1) (left_out_counts joints)) (sym c.left_out.ensures))
