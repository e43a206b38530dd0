-- A file without some stretches of its frames, which `remove` writes: the longest ranges
-- of frames that stay are laid as one splice, so that each serves as the bit reservoir
-- of the next. The head is set apart, so that no frame has main data that begin in it.
use Rattle.std.specs.Prelude.{Bool, drop, Err, false, flat_map, if◌then◌else◌, length, List, map}
use Rattle.std.specs.Prelude.{None, Ok, Option, option_and_then, option_map, Result, slice_get}
use Rattle.std.specs.Prelude.{slice_range, Some, take, true, ℕ, [], ◌++◌, ◌+◌, ◌-◌, ◌∷◌}
use Rattle.commands.specs.{Command.Command, Refusing.then_made}
use Rattle.commands.specs.SingleOutput.{file_task, Making, most_frames, one_command, Task}
use Rattle.commands.specs.declared.fault.EditFault.{EditFault, TheVariants.Refused}
use Rattle.commands.specs.declared.fault.Refusal.TheVariants.{Range}
use Rattle.cut_edits.specs.{Chosen.cut_refuses, Exact.{quality_of, survey_without_head}}
use Rattle.exact_span.specs.{Extensions.extension_of, Heard.{heard_numbers, heard_of}}
use Rattle.exact_span.specs.{Places.exact_frame_at, PlayedPositions.counted_positions}
use Rattle.exact_span.specs.declared.{exact_place.ExactPlace.ExactPlace, played.Played.Played}
use Rattle.exact_span.specs.declared.written.{Heard.Heard, WrittenFrames.WrittenFrames}
use Rattle.frame_header.specs.{Fields.ClassFields, Tables.window_of}
use Rattle.frame_writer.specs.Frames.{Frame}
use Rattle.info_header.specs.declared.fields.Info.{Info}
use Rattle.joined_inputs.specs.Planned.{info_kept, plan_of_splice_needs}
use Rattle.laying.specs.{KeptFields.fields_of_head, LaidFiles.laid_file, Needs.need_of}
use Rattle.laying.specs.Relaid.{FilePart, part_frames, part_stream, relaid_frames}
use Rattle.laying.specs.{Relaid.stream_with_lead_ins, Written.{back_blocks, front_blocks}}
use Rattle.laying.specs.declared.info.Kept.{Kept}
use Rattle.seam_plan.specs.PartSplices.{item_needs, splice_items, SpliceItem}
use Rattle.seam_plan.specs.{Stretches.staying_parts, declared.stretches.Part.Part}
use Rattle.slot_plan.specs.declared.needs.{Need.Need, Placed.Placed}
use Rattle.sync_survey.specs.{Faults.SurveyFields, MainData.StreamFrame, Row.Row, Survey.survey_of}
use Rattle.sync_survey.specs.declared.survey_fault.SurveyFault.{SurveyFault}

-- ---- which frames stay

-- the numbers of a stretch: that of its first frame, and that of the first frame after it
abbrev pub stretch_frames : ClassFields → ℕ → ExactPlace × ExactPlace → ℕ × ℕ
stretch_frames class frames stretch =
    (exact_frame_at class frames stretch.0, exact_frame_at class frames stretch.1)

-- the numbers of all stretches
abbrev pub all_stretch_frames : ClassFields → ℕ → List (ExactPlace × ExactPlace) → List (ℕ × ℕ)
all_stretch_frames class frames stretches = map (stretch_frames class frames) stretches

-- the parts, or the refusal of two numbers that aren't in order
abbrev pub parts_or_range : ℕ → Result (List Part) (ℕ × ℕ) → Result (List Part) EditFault
parts_or_range frames (Ok parts) = Ok parts
parts_or_range frames (Err pair) = Err (Refused (Range pair.0 pair.1 frames))

-- the parts that stay of a file with this survey, or why they are refused
unfoldable pub parts_left : List (ExactPlace × ExactPlace) → SurveyFields
    → Result (List Part) EditFault
parts_left stretches s =
    parts_or_range (length s.frames)
    (staying_parts (length s.frames) (all_stretch_frames s.class (length s.frames) stretches))

-- ---- the splice

-- the frames of a part
abbrev pub part_rows_of : SurveyFields → Part → List Row
part_rows_of s part = slice_range s.frames part.from part.to

-- what they need
abbrev pub part_needs_of : SurveyFields → Part → List Need
part_needs_of s part = map need_of (part_rows_of s part)

-- a part of a file with this survey
abbrev pub file_part : List ℕ → SurveyFields → Part → FilePart
file_part file s part = record { file = file; survey = s; from = part.from; to = part.to }

-- all parts
abbrev pub file_parts : List ℕ → SurveyFields → List Part → List FilePart
file_parts file s parts = map (file_part file s) parts

-- the frames of all parts in the slots in which they join, with the lead-ins that parts need
abbrev pub items_left : SurveyFields → List Part → List SpliceItem
items_left s parts = splice_items (window_of s.class.version) (map (part_needs_of s) parts)

-- the place as that of a lead-in, or as it is
abbrev pub place_as : Bool → Placed → Placed
place_as true p = record p { lead_in = true }
place_as false p = p

-- the places of items, those of the lead-ins among them as such
unfoldable pub item_places : List SpliceItem → List Placed → List Placed
item_places [] placed = placed
item_places (item ∷ items) [] = []
item_places (item ∷ items) (p ∷ placed) = place_as item.lead_in p ∷ item_places items placed

-- how many places a plan has before those of the items: that
-- of the lead-in before the whole splice, if it has one
abbrev pub places_before : List SpliceItem → List Placed → ℕ
places_before items placed = length placed - length items

-- the places of a plan of items, those of the lead-ins among them as such
abbrev pub marked_places : List SpliceItem → List Placed → List Placed
marked_places items placed =
    let before = places_before items placed in
    take before placed ++ item_places items (drop before placed)

-- the plan of what the items need, which are one part: each keeps its slot
abbrev pub plan_of_items : SurveyFields → List SpliceItem → List Placed
plan_of_items s items = plan_of_splice_needs (window_of s.class.version) (item_needs items)

-- the slots of the frames that are written, with the lead-in before them if the splice has one, and
-- those among them
abbrev pub removal_plan : SurveyFields → List Part → List Placed
removal_plan s parts = marked_places (items_left s parts) (plan_of_items s (items_left s parts))

-- the frames with all main data, in these slots
abbrev pub removal_frames : List Part → List ℕ → SurveyFields → List Frame
removal_frames parts file s =
    relaid_frames (flat_map part_frames (file_parts file s parts)) (removal_plan s parts)

-- ---- the numbers

-- 1 if the first of these items is a lead-in, otherwise 0
abbrev pub lead_in_count : List SpliceItem → ℕ
lead_in_count [] = 0
lead_in_count (item ∷ items) = if item.lead_in then 1 else 0

-- where the frames of parts are written whose items are these, if the first item is frame `at` of
-- what is written: each part behind its lead-in, if it has one
unfoldable pub parts_written : ℕ → List SpliceItem → List Part → List WrittenFrames
parts_written at items [] = []
parts_written at items (part ∷ parts) =
    let first = at + lead_in_count items in
    let count = lead_in_count items + (part.to - part.from) in
    record { from = part.from; to = part.to; at = first }
    ∷ parts_written (at + count) (drop count items) parts

-- where the frames of all parts are written, behind the lead-in before the whole splice
abbrev pub all_parts_written : SurveyFields → List Part → List WrittenFrames
all_parts_written s parts =
    let items = items_left s parts in
    parts_written (places_before items (plan_of_items s items)) items parts

-- where the heard positions of a file of `frames` frames are in what is written of it, if the head
-- counts and there are any
abbrev pub heard_of_written : Option Info → ClassFields → ℕ → List WrittenFrames → Option Heard
heard_of_written head class frames written =
    option_and_then (λ (p : Played). heard_of class p written)
    (counted_positions head class frames)

-- what is kept of the head with this delay and this padding
abbrev pub kept_with_numbers : Option Info → ℕ × ℕ → Kept
kept_with_numbers head numbers = record {
  quality = quality_of head;
  extension = extension_of head numbers.0 numbers.1;
}

-- The quality of the head of a file of `frames` frames, and its extension with delay and padding,
-- with which players play what they played of the frames that are written, `places` frames with
-- their lead-ins. Nothing is kept if the head doesn't count, if nothing of what it counts is left,
-- or if a number has more than 12 bits.
abbrev pub kept_of_written : Option Info → ClassFields → ℕ → List WrittenFrames → ℕ → Option Kept
kept_of_written head class frames written places =
    option_map (kept_with_numbers head)
    (option_and_then (heard_numbers class places) (heard_of_written head class frames written))

-- what is kept of the head when these parts are left
abbrev pub removal_kept : Option Info → SurveyFields → List Part → Option Kept
removal_kept head s parts =
    kept_of_written head s.class (length s.frames) (all_parts_written s parts)
    (length (removal_plan s parts))

-- ---- the file

-- The ID3v2 blocks before the first frame or the head, the Info frame with the header of the first
-- frame that stays, the frames, and all other blocks. What is kept is in the Info frame, with music
-- length and tag CRC; otherwise it has no quality, and all else is 0.
abbrev pub removal_row_file : Option Row → List Part → Option Info → List ℕ → SurveyFields → List ℕ
removal_row_file None parts head file s = []
removal_row_file (Some row) parts head file s =
    let frames = removal_frames parts file s in
    laid_file (front_blocks file s) row.header
    (info_kept (removal_kept head s parts) row.header s.class frames) frames (back_blocks file s)

-- the number of the first frame that stays
abbrev pub first_left : List Part → ℕ
first_left [] = 0
first_left (part ∷ parts) = part.from

-- the file of these parts, given the survey whose head is set apart
unfoldable pub removal_file : List Part → Option Info → List ℕ → SurveyFields → List ℕ
removal_file parts head file s =
    removal_row_file (slice_get s.frames (first_left parts)) parts head file s

-- its stream: the frames of the parts, with the lead-ins of the plan
abbrev pub removal_stream : List Part → List ℕ → SurveyFields → List StreamFrame
removal_stream parts file s =
    stream_with_lead_ins (removal_plan s parts) (flat_map part_stream (file_parts file s parts))

-- ---- the command

-- what is made of a file with this survey, or why it is refused
unfoldable pub remove_making : List (ExactPlace × ExactPlace) → Making
remove_making stretches file s =
    then_made (parts_left stretches s) (λ parts.
    Ok (removal_file parts (fields_of_head file s.head) file (survey_without_head s)))

-- the stream of what is left; empty if the stretches are refused
abbrev pub stream_of_parts : List ℕ → SurveyFields → Result (List Part) EditFault
    → List StreamFrame
stream_of_parts file s (Err fault) = []
stream_of_parts file s (Ok parts) = removal_stream parts file (survey_without_head s)

-- the stream of what is left of a file with this survey; empty if the survey has a fault
abbrev pub remove_surveyed_stream : List (ExactPlace × ExactPlace) → List ℕ
    → Result SurveyFields SurveyFault → List StreamFrame
remove_surveyed_stream stretches file (Err fault) = []
remove_surveyed_stream stretches file (Ok s) = stream_of_parts file s (parts_left stretches s)

-- the stream of what is left of a file; empty if it is refused
abbrev pub remove_stream : List (ExactPlace × ExactPlace) → List ℕ → List StreamFrame
remove_stream stretches file = remove_surveyed_stream stretches file (survey_of file most_frames)

-- it makes the file of the frames that stay, and may refuse its places as a cut may
abbrev pub remove_task : List (ExactPlace × ExactPlace) → List ℕ → Task
remove_task stretches input =
    file_task (remove_making stretches) (remove_stream stretches) cut_refuses input

-- the output is the input without these stretches
abbrev pub remove_command : List (ExactPlace × ExactPlace) → List ℕ → List ℕ → Command
remove_command stretches input output = one_command (remove_task stretches input) output
