-- The points of an envelope and of its curve, which the code keeps in one list.
use Rattle.std.specs.Prelude.{if◌then◌else◌, List, nat_lt, None, Option, Some, ℕ, [], ◌<◌, ◌^◌, ◌∷◌}
use Rattle.cue_sheet.specs.Places.{frame_at}
use Rattle.fade_plan.specs.{Curves.CurvePoint, Sheets.{EnvelopePoint, IsPoint}}
use Rattle.fade_plan.specs.declared.point.Point.{Point}
use Rattle.frame_header.specs.Fields.{ClassFields}

-- what contracts see of a point of an envelope
abbrev pub envelope_point_of : Point → EnvelopePoint
envelope_point_of point = record { line = point.line; place = point.place; steps = point.steps }

-- what contracts see of a point of a curve
abbrev pub curve_point_of : Point → CurvePoint
curve_point_of point = record { frame = point.frame; steps = point.steps }

-- the bounds of every point that is kept, whether its frame is known or still 0
pub record IsKeptPoint (point : Point) : Type 0 where
  pub sound : IsPoint point.place point.steps
  pub frame : point.frame < 2 ^ 48

-- the point at the frame of its position
abbrev pub placed_point : ClassFields → ℕ → Point → Point
placed_point class frames point = record point { frame = frame_at class frames point.place }

-- the line of the first point whose frame isn't greater than the frame of the point before
unfoldable pub first_not_rising : List Point → Option ℕ
first_not_rising [] = None
first_not_rising (point ∷ []) = None
first_not_rising (point ∷ next ∷ more) =
    if nat_lt point.frame next.frame then first_not_rising (next ∷ more) else Some next.line
