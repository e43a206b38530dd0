-- The frames of which an output consists, as ranges of the frames of inputs.
use Rattle.std.specs.Prelude.{flat_map, length, List, map, slice_range, unwrap_or, ℕ, [], ◌∷◌, ◌≡◌}
use Rattle.std.specs.Prelude.{◌≢◌, ◌≤◌}
use Rattle.frame_header.specs.Fields.{ClassFields}
use Rattle.frame_writer.specs.Frames.{Frame}
use Rattle.joined_inputs.specs.Inputs.{InputFields, told_contents}
use Rattle.joined_inputs.specs.declared.ranges.LaidRange.{LaidRange}
use Rattle.laying.specs.{Relaid.{FilePart, part_frames, relaid_frames}, Surveys.CanBeRelaid}
use Rattle.laying.specs.declared.relay.Relay.{Relay}
use Rattle.outside.specs.Files.{Contents, Files, Holds, IsFileThere}
use Rattle.slot_plan.specs.declared.needs.Placed.{Placed}
use Rattle.sync_survey.specs.{Faults.{survey_view, SurveyFields}, Row.Row, Survey.IsSurveyLaidOut}

-- ---- one range

-- Frames of an input that are written: the input's name and survey, and the numbers of the first of
-- these frames and of the first after them.
pub record RangeFields : Type 0 where
  pub name : List ℕ
  pub survey : SurveyFields
  pub from : ℕ
  pub to : ℕ

-- a range as the code has it
abbrev pub range_view : LaidRange → RangeFields
range_view range = record {
  name = range.name.now;
  survey = survey_view range.survey.now;
  from = range.from;
  to = range.to;
}

-- the frames of an input from the first that is written on
abbrev pub rest_of_input : InputFields → RangeFields
rest_of_input i =
    record { name = i.name; survey = i.survey; from = i.from; to = length i.survey.frames }

-- ---- all ranges

-- the names of their inputs
abbrev pub range_names : List RangeFields → List (List ℕ)
range_names ranges = map (λ (r : RangeFields). r.name) ranges

-- the rows of their frames
abbrev pub range_rows : List RangeFields → List (List Row)
range_rows ranges = map (λ (r : RangeFields). slice_range r.survey.frames r.from r.to) ranges

-- none ends before it begins, or after the last frame of its input
abbrev pub AreRangesWithin : List RangeFields → Type 0
AreRangesWithin [] = Unit {0}
AreRangesWithin (r ∷ ranges) =
    (r.from ≤ r.to) × (r.to ≤ length r.survey.frames) × AreRangesWithin ranges

-- a range as a part of a file with this content
abbrev pub range_in : Contents → RangeFields → FilePart
range_in files r =
    record { file = unwrap_or (files r.name) []; survey = r.survey; from = r.from; to = r.to }

-- the ranges as parts, with the contents that the folder has
abbrev pub ranges_in : Files → List RangeFields → List FilePart
ranges_in files ranges = map (range_in (told_contents files)) ranges

-- their frames in the slots of a plan, with the contents that the folder has
abbrev pub laid_ranges : Files → List RangeFields → List Placed → List ℕ → List Frame
laid_ranges files ranges placed _ =
    relaid_frames (flat_map part_frames (ranges_in files ranges)) placed

-- ---- the inputs beside the output

-- an input with another name than the output is there, and its frames are as the survey says
pub record IsSource (output : List ℕ) (files : Files) (name : List ℕ)
    (s : SurveyFields) : Type 0 where
  pub apart : name ≢ output
  pub there : IsFileThere files name
  pub exact : (file : List ℕ) → Holds files name file → CanBeRelaid file s
  pub laid : IsSurveyLaidOut s

-- each range is of such an input, and its frames are of this class
abbrev pub AreRangeSources : ClassFields → List ℕ → Files → List RangeFields → Type 0
AreRangeSources class output files [] = Unit {0}
AreRangeSources class output files (r ∷ ranges) =
    (IsSource output files r.name r.survey × (r.survey.class ≡ class))
    × AreRangeSources class output files ranges

-- this pass is over the input of the first range, and writes another file that is there
pub record IsRangePass (first : Relay) (ranges : List RangeFields) (files : Files) : Type 0 where
  pub begins : RangeFields
  pub later : List RangeFields
  pub are : ranges ≡ begins ∷ later
  pub named : begins.name ≡ first.pass.input.now
  pub apart : first.pass.input.now ≢ first.pass.output.now
  pub sources : AreRangeSources (survey_view first.survey.now).class first.pass.output.now files
      ranges
  pub target : IsFileThere files first.pass.output.now
