-- The curve of an envelope over a stream: the steps of 1.5 dB by which the gains of each frame
-- move.
use Rattle.std.specs.Prelude.{Bool, Err, find, if◌then◌else◌, int_div, List, map, nat_le, nat_lt}
use Rattle.std.specs.Prelude.{neg_ℤ, None, Ok, Option, pos, Result, reverse, Some, ℕ, ℤ, ◌*ℤ◌, ◌+ℤ◌}
use Rattle.std.specs.Prelude.{[], ◌-◌, ◌∷◌}
use Rattle.cue_sheet.specs.Places.{frame_at}
use Rattle.fade_plan.specs.Sheets.{EnvelopePoint}
use Rattle.frame_header.specs.Fields.{ClassFields}

-- a point of gain at a frame
pub record CurvePoint : Type 0 where
  pub frame : ℕ
  pub steps : ℤ

-- ---- the curve

-- the frame of a point, by the class and the number of frames of the stream
abbrev pub point_frame : ClassFields → ℕ → EnvelopePoint → ℕ
point_frame class frames point = frame_at class frames point.place

-- the point at the frame of its position
abbrev pub curve_point : ClassFields → ℕ → EnvelopePoint → CurvePoint
curve_point class frames point =
    record { frame = point_frame class frames point; steps = point.steps }

-- the line of the first point whose frame isn't greater than the frame of the point before
unfoldable pub line_not_rising : ClassFields → ℕ → List EnvelopePoint → Option ℕ
line_not_rising class frames [] = None
line_not_rising class frames (point ∷ []) = None
line_not_rising class frames (point ∷ next ∷ more) =
    if nat_lt (point_frame class frames point) (point_frame class frames next)
    then line_not_rising class frames (next ∷ more)
    else Some next.line

-- the points, unless a line doesn't rise
abbrev pub line_or_curve : Option ℕ → List CurvePoint → Result (List CurvePoint) ℕ
line_or_curve None points = Ok points
line_or_curve (Some line) points = Err line

-- the points at their frames, or the first line that doesn't rise
unfoldable pub curve_of : ClassFields → ℕ → List EnvelopePoint → Result (List CurvePoint) ℕ
curve_of class frames points =
    line_or_curve (line_not_rising class frames points) (map (curve_point class frames) points)

-- ---- steps

-- the last point at or before a frame
abbrev pub last_point_up_to : List CurvePoint → ℕ → Option CurvePoint
last_point_up_to points frame = find (λ point. nat_le point.frame frame) (reverse points)

-- the first point after a frame
abbrev pub first_point_after : List CurvePoint → ℕ → Option CurvePoint
first_point_after points frame = find (λ point. nat_lt frame point.frame) points

-- between two points the steps go evenly from the steps of the one to the steps of the other,
-- rounded toward zero
abbrev pub steps_between : CurvePoint → CurvePoint → ℕ → ℤ
steps_between p q frame =
    int_div ((p.steps *ℤ pos (q.frame - frame)) +ℤ (q.steps *ℤ pos (frame - p.frame)))
    (pos (q.frame - p.frame))

-- before the first point the steps are its steps, from the last point's frame on the steps of the
-- last, and without points 0
abbrev pub neighbour_steps : Option CurvePoint → Option CurvePoint → ℕ → ℤ
neighbour_steps None None frame = pos 0
neighbour_steps None (Some q) frame = q.steps
neighbour_steps (Some p) None frame = p.steps
neighbour_steps (Some p) (Some q) frame = steps_between p q frame

-- the steps of a frame
unfoldable pub steps_at : List CurvePoint → ℕ → ℤ
steps_at points frame =
    neighbour_steps (last_point_up_to points frame) (first_point_after points frame) frame

-- a fade that is reversed has the opposite steps
abbrev pub steps_back : Bool → ℤ → ℤ
steps_back back steps = if back then neg_ℤ steps else steps
