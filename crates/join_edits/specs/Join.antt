-- One file of all frames of several files.
use Rattle.std.specs.Prelude.{flat_map, List, map, None, Option, slice_get, Some, ℕ, [], ◌∷◌}
use Rattle.commands.specs.{Command.Command, SingleOutput.{one_command, Task}}
use Rattle.frame_header.specs.{Fields.ClassFields, Tables.window_of}
use Rattle.frame_writer.specs.Frames.{Frame}
use Rattle.joined_inputs.specs.Parts.{parts_task}
use Rattle.laying.specs.{LaidFiles.laid_file, NeedsFit.own_choice}
use Rattle.laying.specs.Relaid.{FilePart, part_frames, part_needs, part_stream, relaid_frames}
use Rattle.laying.specs.{Relaid.stream_with_lead_ins, Written.{front_blocks, plain_info}}
use Rattle.slot_plan.specs.{LeastPlan.least_plan, declared.needs.Placed.Placed}
use Rattle.sync_survey.specs.{MainData.StreamFrame, Row.Row}

-- ---- the joined file

-- The slots of their plan: of all lists of the frames' own slots the first for which there is a
-- layout, with the lead-in that each part has alone.
abbrev pub joined_plan : ClassFields → List FilePart → List Placed
joined_plan class parts = least_plan (window_of class.version) own_choice (map part_needs parts)

-- all frames with all main data, in these slots
abbrev pub joined_frames : ClassFields → List FilePart → List Frame
joined_frames class parts = relaid_frames (flat_map part_frames parts) (joined_plan class parts)

-- The ID3v2 blocks before the first frame of the first input, an Info frame with the header of this
-- first frame, and the frames, with no other block of any input; of no frames there is no file.
abbrev pub joined_row_file : Option Row → FilePart → List FilePart → List ℕ
joined_row_file None part parts = []
joined_row_file (Some first) part parts =
    laid_file (front_blocks part.file part.survey)
    first.header (plain_info part.survey.class (joined_frames part.survey.class parts))
    (joined_frames part.survey.class parts) []

-- the file of all frames of these inputs
unfoldable pub joined_file : List FilePart → List ℕ
joined_file [] = []
joined_file (part ∷ parts) = joined_row_file (slice_get part.survey.frames 0) part (part ∷ parts)

-- its stream: the lead-ins, and all frames as they are in the streams of the parts
unfoldable pub joined_stream : List FilePart → List StreamFrame
joined_stream [] = []
joined_stream (part ∷ parts) =
    stream_with_lead_ins (joined_plan part.survey.class (part ∷ parts))
    (flat_map part_stream (part ∷ parts))

-- ---- the command

-- it makes the file of all frames of the inputs
abbrev pub join_task : List (List ℕ) → Task
join_task inputs = parts_task joined_file joined_stream inputs

-- the output is all frames of the inputs, joined in order
abbrev pub join_command : List ℕ → List (List ℕ) → Command
join_command output inputs = one_command (join_task inputs) output
