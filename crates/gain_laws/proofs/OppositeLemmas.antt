-- The opposite steps.
use Rattle.std.proofs.Common.{ap, ap₂, cond, find, int_div, List, map, nat_le, nat_lt, neg_ℤ}
use Rattle.std.proofs.Common.{negsuc, None, Option, option_map, pos, refl, reverse, Some, subst}
use Rattle.std.proofs.Common.{suc, sym, zero, ℕ, ℤ, ◌*ℤ◌, ◌+ℤ◌, [], ◌*◌, ◌-◌, ◌/◌, ◌∙◌, ◌∷◌, ◌≡◌}
use Rattle.std.proofs.Math.{IntN.{neg_ℤ-+ℤ, neg_ℤ-neg_ℤ, negsuc-*ℤ-pos}, Nat.{zero-div, zero-mul}}
use Rattle.fade_plan.proofs.CurveLemmas.{find_mapped, reverse_mapped}
use Rattle.fade_plan.specs.Curves.{curve_of, curve_point, CurvePoint, first_point_after}
use Rattle.fade_plan.specs.Curves.{last_point_up_to, line_not_rising, line_or_curve}
use Rattle.fade_plan.specs.Curves.{neighbour_steps, point_frame, steps_at, steps_between}
use Rattle.fade_plan.specs.Sheets.{EnvelopePoint}
use Rattle.frame_header.specs.Fields.{ClassFields}
use Rattle.gain_laws.specs.CurveLaws.{AreOpposite, opposite_envelope}

abbrev opposed : CurvePoint → CurvePoint
opposed point = record point { steps = neg_ℤ point.steps }

negated_quotient : (n : ℤ) (d : ℕ) → int_div (neg_ℤ n) (pos d) ≡ neg_ℤ (int_div n (pos d))
negated_quotient (pos n) d = at n
  where
    at : (n : ℕ) → int_div (neg_ℤ (pos n)) (pos d) ≡ neg_ℤ (pos (n / d))
    at zero = ap pos (zero-div d) ∙ sym (ap (λ m. neg_ℤ (pos m)) (zero-div d))
    at (suc n) = refl
negated_quotient (negsuc n) d = sym (neg_ℤ-neg_ℤ (pos (suc n / d)))

negated_product : (a : ℤ) (n : ℕ) → neg_ℤ a *ℤ pos n ≡ neg_ℤ (a *ℤ pos n)
negated_product (pos a) n = at a
  where
    at : (a : ℕ) → neg_ℤ (pos a) *ℤ pos n ≡ neg_ℤ (pos (a * n))
    at zero = ap pos (zero-mul n) ∙ sym (ap (λ m. neg_ℤ (pos m)) (zero-mul n))
    at (suc a) = negsuc-*ℤ-pos a n
negated_product (negsuc a) n = sym (ap neg_ℤ (negsuc-*ℤ-pos a n) ∙ neg_ℤ-neg_ℤ (pos (suc a * n)))

between_opposed : (p q : CurvePoint) (frame : ℕ)
    → steps_between (opposed p) (opposed q) frame ≡ neg_ℤ (steps_between p q frame)
between_opposed p q frame =
    ap (λ n. int_div n (pos (q.frame - p.frame)))
    (ap₂ (λ a b. a +ℤ b) (negated_product p.steps (q.frame - frame))
    (negated_product q.steps (frame - p.frame))
    ∙ sym (neg_ℤ-+ℤ (p.steps *ℤ pos (q.frame - frame)) (q.steps *ℤ pos (frame - p.frame))))
    ∙ negated_quotient ((p.steps *ℤ pos (q.frame - frame)) +ℤ (q.steps *ℤ pos (frame - p.frame)))
    (q.frame - p.frame)

by_opposed : (p q : Option CurvePoint) (frame : ℕ)
    → neighbour_steps (option_map opposed p) (option_map opposed q) frame
    ≡ neg_ℤ (neighbour_steps p q frame)
by_opposed None None frame = refl
by_opposed None (Some q) frame = refl
by_opposed (Some p) None frame = refl
by_opposed (Some p) (Some q) frame = between_opposed p q frame

at_opposed : (points : List CurvePoint) (frame : ℕ)
    → steps_at (map opposed points) frame ≡ neg_ℤ (steps_at points frame)
unfolding steps_at
at_opposed points frame =
    ap₂ (λ a b. neighbour_steps a b frame)
    (ap (find (λ p. nat_le p.frame frame)) (reverse_mapped opposed points)
    ∙ find_mapped (λ p. nat_le p.frame frame) opposed (reverse points))
    (find_mapped (λ p. nat_lt frame p.frame) opposed points)
    ∙ by_opposed (last_point_up_to points frame) (first_point_after points frame) frame

rising_opposed : (class : ClassFields) (frames : ℕ) (points : List EnvelopePoint)
    → line_not_rising class frames (opposite_envelope points) ≡ line_not_rising class frames points
unfolding line_not_rising
rising_opposed class frames [] = refl
rising_opposed class frames (p ∷ []) = refl
rising_opposed class frames (p ∷ q ∷ more) =
    ap (λ o. cond (nat_lt (point_frame class frames p) (point_frame class frames q)) o
    (Some q.line))
    (rising_opposed class frames (q ∷ more))

placed_opposed : (class : ClassFields) (frames : ℕ) (points : List EnvelopePoint)
    → map (curve_point class frames) (opposite_envelope points)
    ≡ map opposed (map (curve_point class frames) points)
placed_opposed class frames [] = refl
placed_opposed class frames (p ∷ more) =
    ap (λ t. opposed (curve_point class frames p) ∷ t) (placed_opposed class frames more)

are_opposite : (o : Option ℕ) (points : List CurvePoint)
    → AreOpposite (line_or_curve o points) (line_or_curve o (map opposed points))
are_opposite None points = at_opposed points
are_opposite (Some line) points = refl

-- opposite points have the opposite curve, and the same fault
pub opposite_envelope-curves : (class : ClassFields) (frames : ℕ) (points : List EnvelopePoint)
    → AreOpposite (curve_of class frames points) (curve_of class frames (opposite_envelope points))
unfolding curve_of
opposite_envelope-curves class frames points =
    subst (λ c. AreOpposite (line_or_curve (line_not_rising class frames points)
    (map (curve_point class frames) points)) c)
    (ap₂ line_or_curve (sym (rising_opposed class frames points))
    (sym (placed_opposed class frames points)))
    (are_opposite (line_not_rising class frames points) (map (curve_point class frames) points))
