-- The two digits of each number below 100.
use Rattle.std.proofs.Common.{arith, Bool, eq-zero-or-pos, eqb, eqb→eq, get_or, inl, inr, suc, T}
use Rattle.std.proofs.Common.{true, zero, ℕ, ◌%◌, ◌&&◌, ◌*◌, ◌+◌, ◌-◌, ◌/◌, ◌<◌, ◌≡◌}
use Rattle.list_edits.specs.declared.line.TheConstants.{PAIRS}
use lib.Ieee.Fits.{and_l, and_r}

abbrev are_pairs : ℕ → Bool
are_pairs zero = true
are_pairs (suc p) = (eqb (get_or PAIRS (p * 2) 0) (48 + p / 10 % 10)
    && eqb (get_or PAIRS (p * 2 + 1) 0) (48 + p % 10)) && are_pairs p

below : (n : ℕ) {p : ℕ} → T (are_pairs n) → p < n
    → (get_or PAIRS (p * 2) 0 ≡ 48 + p / 10 % 10) × (get_or PAIRS (p * 2 + 1) 0 ≡ 48 + p % 10)
below zero t h = absurd (omega arith)
below (suc n) {p} t h =
    elim (eq-zero-or-pos (n - p)) [
      | inl z ↦ grind (arith, and_l, eqb→eq, and_r)
      | inr g ↦ below n (and_r _ (are_pairs n) t) (omega arith)
    ]

-- the table has the two digits of each number below 100
pub pair_at : {p : ℕ} → p < 100
    → (get_or PAIRS (p * 2) 0 ≡ 48 + p / 10 % 10) × (get_or PAIRS (p * 2 + 1) 0 ≡ 48 + p % 10)
pair_at {p} h = below 100 tt h
