-- The steps between two points are no larger than the steps of the points.
use Rattle.std.proofs.Common.{ap, ap₂, arith, FitsSigned, int_div, of_z, pos, to_z, unsigned_abs}
use Rattle.std.proofs.Common.{w64, ℕ, ℤ, ◌*ℤ◌, ◌+ℤ◌, ◌*◌, ◌+◌, ◌/◌, ◌<◌, ◌^◌, ◌∙◌, ◌≡◌, ◌≤◌}
use Rattle.std.proofs.Math.Nat.{div-le_of_le-mul, mul-le-mul_right}
use Rattle.std.proofs.lemmas.Int.{fits_signed_from_abs, to_z-of_z, to_z_pos, unsigned_abs-mul}
use mir.Syntax.{w16}

size_of_quotient : (n : ℤ) (d : ℕ) → unsigned_abs (int_div n (pos d)) ≡ unsigned_abs n / d
size_of_quotient n d = grind arith

size_of_sum : (a b : ℤ) → unsigned_abs (a +ℤ b) ≤ unsigned_abs a + unsigned_abs b
size_of_sum a b = grind arith

size_of_product : (a : ℤ) (n : ℕ) → unsigned_abs a ≤ 255 → unsigned_abs (a *ℤ pos n) ≤ 255 * n
size_of_product a n small = grind (arith, unsigned_abs-mul, pos, mul-le-mul_right)

-- steps weighted by frames on both sides are at most 255 for each frame
pub size_of_weighted : (a b : ℤ) (left passed : ℕ) → unsigned_abs a ≤ 255 → unsigned_abs b ≤ 255
    → unsigned_abs ((a *ℤ pos left) +ℤ (b *ℤ pos passed)) ≤ 255 * (passed + left)
size_of_weighted a b left passed small other = grind (arith, size_of_sum, pos, size_of_product)

-- a number of at most 255 times the divisor has a quotient of at most 255
pub size_between : (n : ℤ) (d : ℕ) → unsigned_abs n ≤ 255 * d
    → unsigned_abs (int_div n (pos d)) ≤ 255
size_between n d small = grind (arith, size_of_quotient, div-le_of_le-mul)

-- ---- what the code computes

-- the quotient is the same in 64 bits, and in 16
pub evenly : {n : ℤ} {d : ℕ} → FitsSigned w64 n → d < 2 ^ 48 → unsigned_abs n ≤ 255 * d
    → to_z w16 (of_z w16 (to_z w64 (of_z w64 (int_div (to_z w64 (of_z w64 n)) (to_z w64 d)))))
    ≡ int_div n (pos d)
evenly {n} {d} fits few small =
    let size : unsigned_abs (int_div n (pos d)) ≤ 255 = size_between n d small in
    ap (λ q. to_z w16 (of_z w16 (to_z w64 (of_z w64 q))))
    (ap₂ int_div (to_z-of_z w64 n fits) (to_z_pos w64 d (omega (arith, few))))
    ∙ ap (λ q. to_z w16 (of_z w16 q)) (to_z-of_z w64 (int_div n (pos d))
    (fits_signed_from_abs w64 (int_div n (pos d)) (omega (arith, size))))
    ∙ to_z-of_z w16 (int_div n (pos d))
    (fits_signed_from_abs w16 (int_div n (pos d)) (omega (arith, size)))

-- steps from -255 to 255 fit in 16 bits
pub small_fits : {z : ℤ} → unsigned_abs z ≤ 255 → to_z w16 (of_z w16 z) ≡ z
small_fits {z} small = to_z-of_z w16 z (fits_signed_from_abs w16 z (omega (arith, small)))

-- the sum of two weighted steps is the same in 64 bits
pub weighted_sum : (a b : ℤ) {l p : ℤ} (left passed : ℕ) → unsigned_abs a ≤ 255
    → unsigned_abs b ≤ 255 → l ≡ a *ℤ pos left → p ≡ b *ℤ pos passed → left + passed < 2 ^ 48
    → to_z w64 (of_z w64 (to_z w64 (of_z w64 l) +ℤ to_z w64 (of_z w64 p)))
    ≡ (a *ℤ pos left) +ℤ (b *ℤ pos passed)
weighted_sum a b left passed small other is and few =
    grind (
      arith,
      pos left,
      pos passed,
      unsigned_abs,
      size_of_product a left small,
      size_of_product
          b passed other,
      size_of_sum,
      to_z,
      w64,
      of_z,
      to_z-of_z,
      fits_signed_from_abs,
    )
