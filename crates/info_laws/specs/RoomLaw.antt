-- How many main data a file can have.
use Rattle.std.specs.Prelude.{List, Ok, ℕ, ◌≡◌, ◌≤◌}
use Rattle.list_edits.specs.Totals.{file_areas, main_data_in}
use Rattle.sync_survey.specs.Faults.{survey_fields, SurveyFields}

-- the main data of a file without fault are at most as many bytes as the areas of its head and its
-- frames together
abbrev pub MainDataFit : Type 0
MainDataFit = (file : List ℕ) (allowed : ℕ) (s : SurveyFields) → survey_fields file allowed ≡ Ok s
    → main_data_in s.frames ≤ file_areas s
