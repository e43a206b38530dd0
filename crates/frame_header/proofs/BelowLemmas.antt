-- A test that passes for all numbers below a bound passes for each of them.
use Rattle.std.proofs.Common.{arith, Bool, inl, inr, subst, suc, true, zero, ℕ, ◌&&◌, ◌<◌, ◌≡◌, ◌≤◌}
use Rattle.std.proofs.lemmas.Bool.{and_parts, cases_lt}

abbrev pub all_below : ℕ → (ℕ → Bool) → Bool
all_below zero p = true
all_below (suc n) p = p n && all_below n p

same : {k n : ℕ} → k < suc n → n ≤ k → n ≡ k
same lt at = omega arith

-- if a test passes for all numbers below n, it passes for each of them
pub all_below-pass : (n : ℕ) (p : ℕ → Bool) {k : ℕ} → all_below n p ≡ true → k < n → p k ≡ true
all_below-pass zero p h lt = absurd (omega arith)
all_below-pass (suc n) p {k} h lt =
    let parts = and_parts (p n) (all_below n p) h in
    elim (cases_lt k n) as (λ _. p k ≡ true) [
      | inl below ↦ all_below-pass n p parts.1 below
      | inr at ↦ subst (λ m. p m ≡ true) (same lt at) parts.0
    ]
