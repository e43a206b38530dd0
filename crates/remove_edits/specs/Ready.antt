-- What is known while a removal is prepared, and what is prepared.
use Rattle.std.specs.List.{All, concat}
use Rattle.std.specs.Prelude.{drop, flat_map, if◌then◌else◌, length, List, map, Option, slice_get}
use Rattle.std.specs.Prelude.{Some, suc, true, zero, ℕ, [], ◌++◌, ◌+◌, ◌-◌, ◌<◌, ◌∷◌, ◌≡◌, ◌≤◌}
use Rattle.commands.specs.SingleOutput.{most_frames}
use Rattle.exact_span.specs.{Places.IsExactPlace, declared.exact_place.ExactPlace.ExactPlace}
use Rattle.exact_span.specs.declared.written.WrittenFrames.{WrittenFrames}
use Rattle.frame_header.specs.{Limits.most_output_frames, Tables.window_of}
use Rattle.frame_writer.specs.{Frames.{bytes_of_frames, Frame}, Writing.IsNewQueue}
use Rattle.info_header.specs.{InfoFrame.info_frame, declared.fields.Info.Info}
use Rattle.joined_inputs.specs.{Planned.info_kept, Ranges.{AreRangesWithin, RangeFields}}
use Rattle.joined_inputs.specs.declared.work.JoinWork.{JoinWork}
use Rattle.laying.specs.{Fits.FitsFromReach, Needs.needs_of_parts, NeedsFit.IsPlacedSurvey}
use Rattle.laying.specs.{Passing.IsRelayFresh, Relaid.{part_frames, relaid_frames}}
use Rattle.laying.specs.{Surveys.CanBeRelaid, Written.{back_blocks, front_blocks}}
use Rattle.laying.specs.declared.relay.Relay.{Relay}
use Rattle.outside.specs.Files.{Files, Holds, IsFileThere}
use Rattle.remove_edits.specs.Removed.{all_parts_written, file_parts, first_left, items_left}
use Rattle.remove_edits.specs.Removed.{lead_in_count, part_rows_of, parts_written, place_as}
use Rattle.remove_edits.specs.Removed.{removal_frames, removal_kept, removal_plan}
use Rattle.remove_edits.specs.declared.planned.PlannedSplice.{PlannedSplice}
use Rattle.remove_edits.specs.declared.splice.DecidedSplice.{DecidedSplice}
use Rattle.remove_edits.specs.declared.work.RemovalWork.{RemovalWork}
use Rattle.seam_plan.specs.PartSplices.{IsPartSplice, IsSoundPartSplice, item_needs, SpliceItem}
use Rattle.seam_plan.specs.{Stretches.AreInOrder, declared.parts.PartJoint.PartJoint}
use Rattle.seam_plan.specs.declared.parts.PartJoint.TheVariants.{InSlot, Led}
use Rattle.seam_plan.specs.declared.{parts.PartSplice.PartSplice, stretches.Part.Part}
use Rattle.slot_plan.specs.{Plans.entries, declared.needs.Placed.Placed}
use Rattle.sync_survey.specs.{Faults.{survey_view, SurveyFields}, Row.Row, Survey.IsSurveyLaidOut}

-- ---- what is asked for

-- the places of each stretch have 1 to 100 parts in a second, if they are times
abbrev pub AreExactStretches : List (ExactPlace × ExactPlace) → Type 0
AreExactStretches stretches =
    All (λ stretch. IsExactPlace stretch.0 × IsExactPlace stretch.1) stretches

-- ---- the parts

-- the part is within the file
pub record IsPartIn (s : SurveyFields) (part : Part) : Type 0 where
  pub ordered : part.from ≤ part.to
  pub within : part.to ≤ length s.frames

-- parts of a stream that can be laid as one splice: at least
-- one, in order, with a frame between each and the next
pub record ArePartsLeft (s : SurveyFields) (parts : List Part) : Type 0 where
  pub some : 1 ≤ length parts
  pub order : AreInOrder 0 (length s.frames) parts
  pub placed : IsPlacedSurvey s

-- such parts, no more of them and no more frames than can be noted
pub record CanBeSplice (s : SurveyFields) (parts : List Part) : Type 0 where
  pub are : ArePartsLeft s parts
  pub many : length parts ≤ 51
  pub few : length s.frames ≤ most_frames

-- where the last of these parts ends
abbrev pub end_of_parts : List Part → ℕ
end_of_parts [] = 0
end_of_parts (part ∷ []) = part.to
end_of_parts (part ∷ next ∷ parts) = end_of_parts (next ∷ parts)

-- ---- the splice

-- the places of the lead-ins among these items, if the first has the place `at`
unfoldable pub lead_in_places : ℕ → List SpliceItem → List ℕ
lead_in_places at [] = []
lead_in_places at (item ∷ items) =
    if item.lead_in then at ∷ lead_in_places (at + 1) items else lead_in_places (at + 1) items

-- these are the items of these parts: each has as many as it has frames, and one more if it begins
-- with a lead-in
unfoldable pub AreItemsOfParts : List SpliceItem → List Part → Type 0
AreItemsOfParts items [] = items ≡ []
AreItemsOfParts items (part ∷ parts) =
    let count = lead_in_count items + (part.to - part.from) in
    (0 < length items) × (count ≤ length items) × AreItemsOfParts (drop count items) parts

-- the splice of these parts, as it is noted
pub record IsSpliceOfParts (s : SurveyFields) (parts : List Part) (d : DecidedSplice) : Type 0 where
  pub needs : d.needs.items ≡ item_needs (items_left s parts)
  pub lead_ins : d.lead_ins.items ≡ lead_in_places 0 (items_left s parts)
  pub written : d.written.items ≡ parts_written 0 (items_left s parts) parts
  pub few : length d.needs.items ≤ end_of_parts parts
  pub room : length d.lead_ins.items + 1 ≤ length parts
  pub consumed : AreItemsOfParts (items_left s parts) parts

-- the places of the lead-ins of a part that joins so, if its first item has the place `at`
abbrev pub joint_places : ℕ → PartJoint → List ℕ
joint_places at (InSlot slot) = []
joint_places at (Led header) = at ∷ []

-- where the frames of a part are written if they are the last of `count` frames
abbrev pub written_last : ℕ → Part → WrittenFrames
written_last count part =
    record { from = part.from; to = part.to; at = count - (part.to - part.from) }

-- the splice has these parts, and can go on
pub record HasSpliceTo (s : SurveyFields) (parts : List Part) (splice : PartSplice)
    (d : DecidedSplice) : Type 0 where
  pub of_parts : IsSpliceOfParts s parts d
  pub is_splice : IsPartSplice s.class (item_needs (items_left s parts)) splice
  pub sound : IsSoundPartSplice splice

-- ---- the plan

-- these places, the one with this number, counted from 0, as that of a lead-in
unfoldable pub with_lead_in : ℕ → List Placed → List Placed
with_lead_in at [] = []
with_lead_in zero (p ∷ placed) = place_as true p ∷ placed
with_lead_in (suc at) (p ∷ placed) = p ∷ with_lead_in at placed

-- these places, those with these numbers as those of lead-ins
abbrev pub with_lead_ins : List ℕ → List Placed → List Placed
with_lead_ins [] placed = placed
with_lead_ins (at ∷ ats) placed = with_lead_ins ats (with_lead_in at placed)

-- these frames, written so many frames later
abbrev pub put_off_by : ℕ → List WrittenFrames → List WrittenFrames
put_off_by before written = map (λ (w : WrittenFrames). record w { at = w.at + before }) written

-- ---- the ranges

-- a part of an input with this name as a range
abbrev pub part_range : List ℕ → SurveyFields → Part → RangeFields
part_range name s part = record { name = name; survey = s; from = part.from; to = part.to }

-- ---- what is prepared

-- the bytes are those of the Info frame before these parts
abbrev pub IsRemovalInfo : List Part → Option Info → SurveyFields → List ℕ → Type 0
IsRemovalInfo parts head s bytes =
    (file : List ℕ) → CanBeRelaid file s → (first : Row)
    → slice_get s.frames (first_left parts) ≡ Some first
    → bytes ≡ info_frame first.header
    (info_kept (removal_kept head s parts) first.header s.class (removal_frames parts file s))

-- the plan of these parts with the lead-ins among them, which
-- is no longer than an output, and where the parts are written
pub record IsSplicePlanned (s : SurveyFields) (parts : List Part)
    (splice : PlannedSplice) : Type 0 where
  pub plan : entries splice.plan ≡ removal_plan s parts
  pub few : length (entries splice.plan) ≤ most_output_frames
  pub written : splice.written.items ≡ all_parts_written s parts

-- the plan, the Info frame before it, and the buffers
pub record IsLaidOut (s : SurveyFields) (parts : List Part) (head : Option Info)
    (work : JoinWork) : Type 0 where
  pub plan : entries work.plan ≡ removal_plan s parts
  pub info : IsRemovalInfo parts head s work.info.items
  pub fresh : IsRelayFresh s.class work.buffers

-- the same beside the survey and the parts
pub record IsRemovalPlanned (s : SurveyFields) (parts : List Part) (head : Option Info)
    (work : RemovalWork) : Type 0 where
  pub survey_is : survey_view work.survey ≡ s
  pub parts_are : work.parts.items ≡ parts
  pub laid_out : IsLaidOut s parts head work.work

-- The input is there and has the survey, the parts can be laid in the slots of the plan, the buffer
-- holds no bytes of any file, and nothing waits.
pub record IsRemovalReady (input : List ℕ) (work : RemovalWork) (files : Files) : Type 0 where
  pub there : IsFileThere files input
  pub laid : IsSurveyLaidOut (survey_view work.survey)
  pub has : (bytes : List ℕ) → Holds files input bytes → CanBeRelaid bytes (survey_view work.survey)
  pub some : 1 ≤ length work.parts.items
  pub few : length work.parts.items ≤ 51
  pub within : AreRangesWithin (map (part_range input (survey_view work.survey)) work.parts.items)
  pub fits : FitsFromReach (window_of (survey_view work.survey).class.version) 0
      (needs_of_parts (map (part_rows_of (survey_view work.survey)) work.parts.items))
      (entries work.work.plan)
  pub fresh : IsRelayFresh (survey_view work.survey).class work.work.buffers

-- the frames of these parts in the slots of a plan
abbrev pub laid_parts : SurveyFields → List Part → List Placed → List ℕ → List Frame
laid_parts s parts placed file =
    relaid_frames (flat_map part_frames (file_parts file s parts)) placed

-- the blocks before the frames, the Info frame, and the frames
abbrev pub parts_front : SurveyFields → List Part → JoinWork → List ℕ → List ℕ
parts_front s parts work file =
    (concat (front_blocks file s) ++ work.info.items)
    ++ bytes_of_frames (laid_parts s parts (entries work.plan) file)

-- these, and the blocks after the frames
abbrev pub parts_file : SurveyFields → List Part → JoinWork → List ℕ → List ℕ
parts_file s parts work file = parts_front s parts work file ++ concat (back_blocks file s)

-- the file of the work
abbrev pub removal_work_file : RemovalWork → List ℕ → List ℕ
removal_work_file work file = parts_file (survey_view work.survey) work.parts.items work.work file

-- the parts of the input can be written in the places of their plan
pub record CanBeWritten (relay : Relay) (parts : List Part) (work : JoinWork) : Type 0 where
  pub some : 1 ≤ length parts
  pub few : length parts ≤ 51
  pub within : AreRangesWithin
      (map (part_range relay.pass.input.now (survey_view relay.survey.now)) parts)
  pub fits : FitsFromReach (window_of (survey_view relay.survey.now).class.version) 0
      (needs_of_parts (map (part_rows_of (survey_view relay.survey.now)) parts))
      (entries work.plan)
  pub new : IsNewQueue (survey_view relay.survey.now).class work.buffers.writer
