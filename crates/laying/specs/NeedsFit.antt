-- Parts of streams, and when they can be planned.
use Rattle.std.specs.Prelude.{All, length, List, slice_range, ℕ, [], ◌<◌, ◌∷◌, ◌≡◌, ◌≤◌}
use Rattle.frame_header.specs.{Fields.{ClassFields, HeaderFields, SlotFields}, Slots.all_slots}
use Rattle.frame_header.specs.Tables.{window_of}
use Rattle.laying.specs.Needs.{PlanInput}
use Rattle.slot_plan.specs.Laws.{PartsChooseInOrder}
use Rattle.slot_plan.specs.Parts.{AreNeedsOfClass, CanBePlanned, needs_in_parts, window_in}
use Rattle.sync_survey.specs.{Faults.SurveyFields, Row.Row, Survey.AreWellPlaced}

-- the frames of this survey are of its class, and their main data
-- have no fault (`surveys_are_placed` says so for every well-formed
-- file, and the clause `laid` for every survey of a folder)
abbrev pub IsPlacedSurvey : SurveyFields → Type 0
IsPlacedSurvey s = AreWellPlaced s.head s.class s.frames

-- frames of a stream of this class, from number `from` up
-- to, but not including, number `to`; there is at least one
pub record IsPartOf (class : ClassFields) (rows : List Row) : Type 0 where
  pub survey : SurveyFields
  pub from : ℕ
  pub to : ℕ
  pub placed : IsPlacedSurvey survey
  pub same : survey.class ≡ class
  pub some : from < to
  pub within : to ≤ length survey.frames
  pub are : rows ≡ slice_range survey.frames from to

-- a frame keeps its own slot
abbrev pub own_choice : HeaderFields → List SlotFields
own_choice h = h.slot ∷ []

-- a frame may have any slot
abbrev pub any_choice : HeaderFields → List SlotFields
any_choice h = all_slots

-- parts can be planned, all frames are of this class, in each
-- part too, and their choices are in order under either policy
pub record IsFitPlanInput (class : ClassFields) (asked : PlanInput) : Type 0 where
  pub all : AreNeedsOfClass class asked.needs
  pub each : All (λ part. AreNeedsOfClass class part) (needs_in_parts asked.needs asked.places)
  pub kept : PartsChooseInOrder own_choice (needs_in_parts asked.needs asked.places)
  pub least : PartsChooseInOrder any_choice (needs_in_parts asked.needs asked.places)
  pub window : window_in asked.needs ≡ window_of class.version
  pub planned : CanBePlanned asked.needs asked.places
