-- What frames of surveys need to be placed again, part by part.
use Rattle.std.specs.Prelude.{false, flat_map, if◌then◌else◌, length, List, map, ℕ, [], ◌+◌, ◌∷◌}
use Rattle.std.specs.Prelude.{◌≡◌}
use Rattle.frame_header.specs.Fields.{HeaderFields}
use Rattle.side_info.specs.{FrameFields.header_like, Side.payload_bytes}
use Rattle.slot_plan.specs.declared.needs.Need.{Need}
use Rattle.sync_survey.specs.Row.{Row}

-- the header of a frame, and the length of its main data in bytes, 0 for a lost frame
abbrev pub need_of : Row → Need
need_of r = record { header = r.header; bytes = if r.lost then 0 else payload_bytes r.side }

-- a frame isn't lost, and its header is `h` except for slot and mode extension
pub record IsUsualFrame (h : HeaderFields) (r : Row) : Type 0 where
  pub like : r.header ≡ header_like h r.header
  pub here : r.lost ≡ false

-- the needs of the frames of several parts, concatenated
unfoldable pub needs_of_parts : List (List Row) → List Need
needs_of_parts parts = flat_map (map need_of) parts

-- the place of each part's first frame, if `at` frames are before all of them
unfoldable pub part_places : ℕ → List (List Row) → List ℕ
part_places at [] = []
part_places at (rows ∷ parts) = at ∷ part_places (at + length rows) parts

-- what the planner is given: the frames of all parts, and the place of each part's first frame
pub record PlanInput : Type 0 where
  pub needs : List Need
  pub places : List ℕ

-- what the planner is given for these parts
abbrev pub plan_input : List (List Row) → PlanInput
plan_input parts = record { needs = needs_of_parts parts; places = part_places 0 parts }
