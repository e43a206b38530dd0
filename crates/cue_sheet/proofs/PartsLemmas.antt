-- The parts between bytes: the first one, and the others.
use Rattle.std.proofs.Common.{ap, arith, Bool, cond, drop, false, List, not, refl, suc, sym, take}
use Rattle.std.proofs.Common.{true, ℕ, [], ◌+◌, ◌∙◌, ◌∷◌, ◌≡◌}
use Rattle.std.proofs.lemmas.List.Splits.{slice_split-cons_no, slice_split-cons_yes}
use Rattle.std.specs.List.{onto_first, position_or_len, slice_split}

-- the parts after the first, from the separator on that ends the first
abbrev pub other_parts : (ℕ → Bool) → List ℕ → List (List ℕ)
other_parts p [] = []
other_parts p (end ∷ rest) = slice_split p rest

-- one byte more is one more to count
pub one_more : (n : ℕ) → 1 + n ≡ suc n
one_more n = omega arith

-- a separator at the beginning ends the first part there
pub at_first : (p : ℕ → Bool) {x : ℕ} (xs : List ℕ) → p x ≡ true → position_or_len p (x ∷ xs) ≡ 0
at_first p xs is = ap (λ b. cond (not b) (1 + position_or_len p xs) 0) is

-- any other byte is one more of the first part
pub past_other : (p : ℕ → Bool) {x : ℕ} (xs : List ℕ) → p x ≡ false
    → position_or_len p (x ∷ xs) ≡ suc (position_or_len p xs)
past_other p xs is =
    ap (λ b. cond (not b) (1 + position_or_len p xs) 0) is ∙ one_more (position_or_len p xs)

-- the first part and the other parts, if the first ends at n
abbrev pub parts_at : (ℕ → Bool) → ℕ → List ℕ → List (List ℕ)
parts_at p n t = take n t ∷ other_parts p (drop n t)

-- the parts of bytes are the part up to the first separator and the other parts
pub parts_are : (p : ℕ → Bool) (t : List ℕ) → slice_split p t ≡ parts_at p (position_or_len p t) t
parts_are p [] = refl
parts_are p (x ∷ xs) =
    elim (p x) as (λ b. p x ≡ b
    → slice_split p (x ∷ xs) ≡ parts_at p (position_or_len p (x ∷ xs)) (x ∷ xs)) [
      | true ↦ λ is. slice_split-cons_yes p x xs is
          ∙ ap (λ n. parts_at p n (x ∷ xs)) (sym (at_first p xs is))
      | false ↦ λ is. slice_split-cons_no p x xs is ∙ ap (onto_first x) (parts_are p xs)
          ∙ ap (λ n. parts_at p n (x ∷ xs)) (sym (past_other p xs is))
    ] refl
