-- Parts of streams can be planned.
use Rattle.std.specs.Prelude.{All, length, List, map, slice_range, ℕ, [], ◌<◌, ◌∷◌, ◌≤◌}
use Rattle.frame_header.specs.{Fields.ClassFields, Tables.window_of}
use Rattle.laying.specs.{Needs.plan_input, NeedsFit.{IsFitPlanInput, IsPartOf, IsPlacedSurvey}}
use Rattle.laying.specs.Passing.{needs_from}
use Rattle.slot_plan.specs.{Layouts.HasLayout, Parts.{AreNeedsOfClass, own_frame}}
use Rattle.sync_survey.specs.{Faults.SurveyFields, Row.Row}

-- a part of a stream is of the stream's class, and has a
-- layout in its own slots after a whole window of free bytes
abbrev pub PartFits : Type 0
PartFits =
    (s : SurveyFields) (from to : ℕ) → IsPlacedSurvey s
    → AreNeedsOfClass s.class (needs_from s from to)
    × HasLayout (window_of s.class.version) (window_of s.class.version)
    (map own_frame (needs_from s from to))

-- a part with at least one frame can be planned
abbrev pub OnePartFits : Type 0
OnePartFits =
    (s : SurveyFields) (from to : ℕ) → IsPlacedSurvey s → from < to → to ≤ length s.frames
    → IsFitPlanInput s.class (plan_input (slice_range s.frames from to ∷ []))

-- parts of one class can be planned, concatenated
abbrev pub PartsFit : Type 0
PartsFit = (class : ClassFields) (parts : List (List Row)) → 1 ≤ length parts
    → All (IsPartOf class) parts → IsFitPlanInput class (plan_input parts)
