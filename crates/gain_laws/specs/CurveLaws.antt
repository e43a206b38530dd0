-- Laws of curves: how their steps go from point to point, how far they go, and that the opposite
-- envelope has the opposite steps.
use Rattle.std.specs.List.{AllPairs}
use Rattle.std.specs.Prelude.{All, Bool, Err, int_le, IsTrue, List, map, neg_ℤ, Ok, pos, Result, ℕ}
use Rattle.std.specs.Prelude.{ℤ, [], ◌&&◌, ◌++◌, ◌<◌, ◌∷◌, ◌≡◌, ◌≤◌}
use Rattle.fade_plan.specs.Curves.{curve_of, CurvePoint, steps_at, steps_between}
use Rattle.fade_plan.specs.Sheets.{EnvelopePoint}
use Rattle.frame_header.specs.Fields.{ClassFields}

-- ---- from point to point

-- the frame of each point is greater than the frames of all points before it
abbrev pub IsCurveRising : List CurvePoint → Type 0
IsCurveRising points = AllPairs (λ p q. p.frame < q.frame) points

-- the steps of a curve go evenly from each point to the next, and are constant before the first and
-- from the last on
pub record CurvesGoEvenly : Type 0 where
  -- the points of a curve rise
  pub rising : (class : ClassFields) (frames : ℕ) (points : List EnvelopePoint)
      (curve : List CurvePoint) → curve_of class frames points ≡ Ok curve → IsCurveRising curve
  -- before the first point, its steps
  pub before : (p : CurvePoint) (more : List CurvePoint) (frame : ℕ) → IsCurveRising (p ∷ more)
      → frame < p.frame → steps_at (p ∷ more) frame ≡ p.steps
  -- between a point and the next, from the frame of the first of them on, evenly from the one to
  -- the other
  pub between : (front back : List CurvePoint) (p q : CurvePoint) (frame : ℕ)
      → IsCurveRising (front ++ (p ∷ q ∷ back)) → p.frame ≤ frame → frame < q.frame
      → steps_at (front ++ (p ∷ q ∷ back)) frame ≡ steps_between p q frame
  -- from the last point's frame on, its steps
  pub behind : (front : List CurvePoint) (p : CurvePoint) (frame : ℕ)
      → IsCurveRising (front ++ (p ∷ [])) → p.frame ≤ frame
      → steps_at (front ++ (p ∷ [])) frame ≡ p.steps

-- ---- how far

-- from `down` steps down to `up` steps up
abbrev pub is_step_within : ℕ → ℕ → ℤ → Bool
is_step_within down up steps = int_le (neg_ℤ (pos down)) steps && int_le steps (pos up)

-- no frame has steps outside the steps of the points
pub record CurvesStayWithin : Type 0 where
  -- if the steps of all points are within a range, the steps of every frame are too
  pub all : (down up : ℕ) (points : List CurvePoint)
      → All (λ p. IsTrue (is_step_within down up p.steps)) points
      → (frame : ℕ) → IsTrue (is_step_within down up (steps_at points frame))
  -- every frame has the steps of a single point
  pub one : (p : CurvePoint) (frame : ℕ) → steps_at (p ∷ []) frame ≡ p.steps

-- ---- the opposite

-- the same point with the opposite steps
abbrev pub opposite_point : EnvelopePoint → EnvelopePoint
opposite_point point = record point { steps = neg_ℤ point.steps }

-- the envelope with the opposite steps
abbrev pub opposite_envelope : List EnvelopePoint → List EnvelopePoint
opposite_envelope points = map opposite_point points

-- neither rises, because of the same line, or both do and the steps of each frame are opposite
abbrev pub AreOpposite : Result (List CurvePoint) ℕ → Result (List CurvePoint) ℕ → Type 0
AreOpposite (Err line) (Err other) = line ≡ other
AreOpposite (Err line) (Ok other) = ⊥
AreOpposite (Ok points) (Err other) = ⊥
AreOpposite (Ok points) (Ok others) =
    (frame : ℕ) → steps_at others frame ≡ neg_ℤ (steps_at points frame)

-- an envelope and the opposite one have opposite curves
abbrev pub OppositeCurves : Type 0
OppositeCurves = (class : ClassFields) (frames : ℕ) (points : List EnvelopePoint)
    → AreOpposite (curve_of class frames points) (curve_of class frames (opposite_envelope points))
