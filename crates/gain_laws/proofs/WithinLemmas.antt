-- A curve goes no further up or down than its points.
use Rattle.std.proofs.Common.{arith, Bool, cond, false, List, nat_le, nat_lt, None, Option, refl}
use Rattle.std.proofs.Common.{Some, subst, suc, true, zero, ℕ, [], ◌*◌, ◌+◌, ◌-◌, ◌<◌, ◌∷◌, ◌≡◌}
use Rattle.std.proofs.{Common.◌≤◌, Math.Nat.{add-mul, div-le_of_le-mul, mul-le-mul_right, mul_comm}}
use Rattle.std.proofs.lemmas.Bool.{le-ltb, leb-false, leb-true, lt-ltb, ltb-true}
use Rattle.std.{proofs.lemmas.List.{get_or-reverse, length-reverse}, specs.Cmp.both_ways}
use Rattle.std.specs.List.{All}
use Rattle.std.specs.Prelude.{find, int_div, IsTrue, neg_ℤ, negsuc, pos, reverse, ℤ, ◌*ℤ◌, ◌+ℤ◌}
use Rattle.fade_plan.specs.Curves.{CurvePoint, first_point_after, last_point_up_to, neighbour_steps}
use Rattle.fade_plan.specs.Curves.{steps_at, steps_between}
use Rattle.gain_laws.specs.CurveLaws.{is_step_within}

-- ---- how far a number is above 0 and below it

above : ℤ → ℕ
above (pos n) = n
above (negsuc n) = 0

below : ℤ → ℕ
below (pos n) = 0
below (negsuc n) = suc n

record IsFar (down up : ℕ) (z : ℤ) : Type 0 where
  down_to : below z ≤ down
  up_to : above z ≤ up

far : {down up : ℕ} {z : ℤ} → is_step_within down up z ≡ true → IsFar down up z
unfolding above below
far is = grind arith

near : {down up : ℕ} {z : ℤ} → IsFar down up z → is_step_within down up z ≡ true
unfolding above below
near is = grind arith

-- the opposite number is as far up as the number is down
pub within-opposite : (down up : ℕ) (z : ℤ)
    → is_step_within down up (neg_ℤ z) ≡ is_step_within up down z
unfolding above below
within-opposite down up z =
    both_ways (is_step_within down up (neg_ℤ z)) (is_step_within up down z)
    (λ is. near (back z (far is)))
    (λ is. near (there z (far is)))
  where
    back : (z : ℤ) → IsFar down up (neg_ℤ z) → IsFar up down z
    back (pos zero) is = record { down_to = is.up_to; up_to = is.down_to }
    back (pos (suc n)) is = record { down_to = is.up_to; up_to = is.down_to }
    back (negsuc n) is = record { down_to = is.up_to; up_to = is.down_to }

    there : (z : ℤ) → IsFar up down z → IsFar down up (neg_ℤ z)
    there z is = grind arith

-- ---- of sums, products and quotients

above_sum : (a b : ℤ) → above (a +ℤ b) ≤ above a + above b
unfolding above
above_sum a b = grind arith

below_sum : (a b : ℤ) → below (a +ℤ b) ≤ below a + below b
unfolding below
below_sum a b = grind arith

above_negated : (n : ℕ) → above (neg_ℤ (pos n)) ≡ 0
unfolding above
above_negated n = grind arith

below_negated : (n : ℕ) → below (neg_ℤ (pos n)) ≡ n
unfolding below
below_negated n = grind arith

above_product : (a : ℤ) (n : ℕ) → above (a *ℤ pos n) ≤ above a * n
unfolding above
above_product a n = grind arith

below_product : (a : ℤ) (n : ℕ) → below (a *ℤ pos n) ≤ below a * n
unfolding below
below_product a n = grind arith

above_quotient : (z : ℤ) (d : ℕ) {most : ℕ} → above z ≤ d * most → above (int_div z (pos d)) ≤ most
unfolding above
above_quotient z d few = grind (arith, div-le_of_le-mul, above_negated)

below_quotient : (z : ℤ) (d : ℕ) {most : ℕ} → below z ≤ d * most → below (int_div z (pos d)) ≤ most
unfolding below
below_quotient z d few = grind (arith, below_negated, div-le_of_le-mul)

-- ---- between two points

weights : (most left passed : ℕ) → most * left + most * passed ≡ (passed + left) * most
weights most left passed = grind (arith, mul_comm, add-mul)

-- a sum of steps weighted by the frames on both sides is at most `up` for each frame
weighted_above : {up : ℕ} (a b : ℤ) (left passed : ℕ) → above a ≤ up → above b ≤ up
    → above ((a *ℤ pos left) +ℤ (b *ℤ pos passed)) ≤ (passed + left) * up
weighted_above a b left passed few other =
    grind (arith, weights, above_sum, above_product, mul-le-mul_right)

weighted_below : {down : ℕ} (a b : ℤ) (left passed : ℕ) → below a ≤ down → below b ≤ down
    → below ((a *ℤ pos left) +ℤ (b *ℤ pos passed)) ≤ (passed + left) * down
weighted_below a b left passed few other =
    grind (arith, weights, below_sum, below_product, mul-le-mul_right)

between : {down up : ℕ} {p q : CurvePoint} {frame : ℕ} → IsFar down up p.steps
    → IsFar down up q.steps → p.frame ≤ frame → frame < q.frame
    → IsFar down up (steps_between p q frame)
between {p = p} {q = q} {frame = frame} first second from to =
    let left = q.frame - frame in
    let passed = frame - p.frame in
    let whole : passed + left ≡ q.frame - p.frame = omega (arith, from, to) in
    let sum = (p.steps *ℤ pos left) +ℤ (q.steps *ℤ pos passed) in
    record {
      down_to = grind (arith, below_quotient, weighted_below);
      up_to = grind (arith, above_quotient, weighted_above);
    }

-- ---- of a whole curve

found : {X : Type 0} (P : X → Type 0) (test : X → Bool) (xs : List X) {x : X} → All P xs
    → find test xs ≡ Some x → (test x ≡ true) × P x
found P test [] all is = absurd cc
found P test (y ∷ ys) {x} all is =
    elim (test y) as (λ b. test y ≡ b → cond b (Some y) (find test ys) ≡ Some x
    → (test x ≡ true) × P x) [
      | true ↦ λ passes e. let same : y ≡ x = cc in
          (subst (λ z. test z ≡ true) same passes, subst P same (all 0 y (omega arith)))
      | false ↦ λ fails e. found P test ys (λ k d less. all (suc k) d (omega (arith, less))) e
    ] refl is

all_back : {X : Type 0} (P : X → Type 0) (xs : List X) → All P xs → All P (reverse xs)
all_back {X} P xs all = grind (arith, length-reverse, get_or-reverse)

none_far : (down up : ℕ) → IsFar down up (pos 0)
unfolding above below
none_far down up = record { down_to = omega arith; up_to = omega arith }

-- the steps at a frame are no further up or down than the steps of all points
pub steps_within : (down up : ℕ) (points : List CurvePoint)
    → All (λ p. IsTrue (is_step_within down up p.steps)) points → (frame : ℕ)
    → is_step_within down up (steps_at points frame) ≡ true
unfolding steps_at
steps_within down up points all frame =
    by_points (last_point_up_to points frame) (first_point_after points frame) refl refl
  where
    last : (p : CurvePoint) → last_point_up_to points frame ≡ Some p
        → (nat_le p.frame frame ≡ true) × (is_step_within down up p.steps ≡ true)
    last p is = found (λ p. is_step_within down up p.steps ≡ true) (λ p. nat_le p.frame frame)
        (reverse points) (all_back (λ p. is_step_within down up p.steps ≡ true) points all) is

    first : (q : CurvePoint) → first_point_after points frame ≡ Some q
        → (nat_lt frame q.frame ≡ true) × (is_step_within down up q.steps ≡ true)
    first q is =
        found (λ p. is_step_within down up p.steps ≡ true)
        (λ p. nat_lt frame p.frame) points all is

    by_points : (o r : Option CurvePoint) → last_point_up_to points frame ≡ o
        → first_point_after points frame ≡ r
        → is_step_within down up (neighbour_steps o r frame) ≡ true
    by_points None None e d = near (none_far down up)
    by_points None (Some q) e d = (first q d).1
    by_points (Some p) None e d = (last p e).1
    by_points (Some p) (Some q) e d =
        near
        (between (far (last p e).1) (far
        (first q d).1) (leb-true p.frame frame (last p e).0) (ltb-true frame q.frame (first q d).0))

-- a curve of one point has its steps at every frame
pub steps_of_one : (p : CurvePoint) (frame : ℕ) → steps_at (p ∷ []) frame ≡ p.steps
unfolding steps_at
steps_of_one p frame = grind (arith, nat_le, le-ltb, leb-true, lt-ltb, leb-false)
