-- Frames that are lost when the head is set apart. By the standard the head's area is main data
-- like every other area (main_data_begin, ISO/IEC 11172-3 and 13818-3, 2.4.2.7), but players leave
-- the head out, so they have no main data that begin in it.
use Rattle.std.specs.List.{enumerate_from}
use Rattle.std.specs.Prelude.{false, if◌then◌else◌, List, map, None, Option, Some, ℕ, ◌||◌}
use Rattle.side_info.specs.Side.{no_side}
use Rattle.sync_survey.specs.{Faults.SurveyFields, MainData.is_lost, Row.Row}
use Rattle.sync_survey.specs.declared.places.Head.{Head}

-- Frame i, marked as lost also if it is lost in a file of the same frames without
-- a head: its main_data_begin is greater than the sum of the areas of the frames
-- before it, and each of these is silent or lost in this sense (`LostFramesLead`).
abbrev pub apart_row : List Row → ℕ → Row → Row
apart_row rows i r = record r { lost = r.lost || is_lost None rows i r }

-- all frames, each marked as lost also if it is lost without a head
unfoldable pub apart_rows : List Row → List Row
apart_rows rows = map (λ (p : ℕ × Row). apart_row rows p.0 p.1) (enumerate_from 0 rows)

-- the frames once the head is set apart; without a head they are unchanged
abbrev pub rows_set_apart : Option Head → List Row → List Row
rows_set_apart None rows = rows
rows_set_apart (Some head) rows = apart_rows rows

-- a survey whose head is set apart
abbrev pub head_apart : SurveyFields → SurveyFields
head_apart s = record s { frames = rows_set_apart s.head s.frames }

-- ---- the frames as they are written

-- a frame, which, if it is lost, becomes one without main data, with side information that is all 0
abbrev pub emptied_row : Row → Row
emptied_row r = if r.lost then record r { side = no_side; lost = false } else r

-- a survey with lost frames as empty ones
abbrev pub emptied_survey : SurveyFields → SurveyFields
emptied_survey s = record s { frames = map emptied_row s.frames }
