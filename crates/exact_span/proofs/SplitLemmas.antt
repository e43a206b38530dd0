-- The pieces between ascending points are the whole.
use Rattle.std.proofs.Common.{add-zero, ap, arith, List, suc, zero, ℕ, [], ◌++◌, ◌+◌, ◌-◌, ◌∙◌, ◌∷◌}
use Rattle.std.{proofs.Common.{◌≡◌, ◌≤◌}, specs.List.range_with_len}
use Rattle.exact_span.specs.Laws.{last_point, pieces_samples, PointsAscend, samples_between}

-- m numbers from a on, followed by n more, are one range
pub ranges : (a m n : ℕ) → range_with_len a m ++ range_with_len (a + m) n ≡ range_with_len a (m + n)
ranges a zero n = let many : n ≡ 0 + n = omega arith in
    ap (λ k. range_with_len k n) (add-zero a) ∙ ap (range_with_len a) many
ranges a (suc m) n =
    let from : a + suc m ≡ a + 1 + m = omega arith in
    let many : suc (m + n) ≡ suc m + n = omega arith in
    ap (λ (xs : List ℕ). a ∷ xs) (ap (λ k. range_with_len (a + 1) m ++ range_with_len k n) from
    ∙ ranges (a + 1) m n) ∙ ap (range_with_len a) many

between-more : {a b c : ℕ} → a ≤ b → b ≤ c
    → samples_between a b ++ samples_between b c ≡ samples_between a c
between-more {a} {b} {c} first then =
    let there : b ≡ a + (b - a) = omega arith in
    let many : b - a + (c - b) ≡ c - a = omega arith in
    ap (λ k. range_with_len a (b - a) ++ range_with_len k (c - b)) there ∙ ranges a (b - a) (c - b)
    ∙ ap (range_with_len a) many

last-after : {a : ℕ} (points : List ℕ) → PointsAscend a points → a ≤ last_point a points
last-after [] ascend = omega arith
last-after (b ∷ points) ascend = omega (arith, ascend.0, last-after points ascend.1)

-- the samples of all pieces, joined, are the samples between the first and the last point
pub pieces-whole : (a : ℕ) (points : List ℕ) → PointsAscend a points
    → pieces_samples a points ≡ samples_between a (last_point a points)
unfolding pieces_samples
pieces-whole a [] ascend = let none : 0 ≡ a - a = omega arith in ap (range_with_len a) none
pieces-whole a (b ∷ points) ascend =
    ap (λ (xs : List ℕ). samples_between a b ++ xs) (pieces-whole b points ascend.1)
    ∙ between-more ascend.0 (last-after points ascend.1)
