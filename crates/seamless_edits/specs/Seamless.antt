-- One file of the frames of several files, without seams, which `join --seamless` writes: frames
-- that only a piece needs are left out, and the splice before an input serves as its bit reservoir.
-- In every input the head is set apart, so none of its frames has main data that begin in it.
use Rattle.std.specs.List.{concat, list_all}
use Rattle.std.specs.Prelude.{Bool, bytes_eq, codes, decimal, drop, Err, false, flat_map}
use Rattle.std.specs.Prelude.{if◌then◌else◌, is_some, length, List, map, nat_le, None, Ok, Option}
use Rattle.std.specs.Prelude.{option_and_then, replicate, Result, slice_get, Some, take, zip, ℕ, []}
use Rattle.std.specs.Prelude.{◌&&◌, ◌*◌, ◌++◌, ◌+◌, ◌-◌, ◌==◌, ◌∷◌}
use Rattle.commands.specs.{Command.Command, SingleOutput.{one_command, Task}}
use Rattle.commands.specs.{WithText.telling_command, declared.fault.EditFault.EditFault}
use Rattle.cut_edits.specs.Exact.{quality_of, survey_without_head}
use Rattle.exact_span.specs.Extensions.{extension_of}
use Rattle.exact_span.specs.PlayedPositions.{counted_positions, decoder_delay, played_of, rest_of}
use Rattle.exact_span.specs.{PlayedPositions.samples_in, TagWord.sealed_info}
use Rattle.exact_span.specs.declared.played.Played.{Played}
use Rattle.frame_header.specs.{Fields.ClassFields, HeaderBits.header_bits}
use Rattle.frame_header.specs.Tables.{class_of, window_of}
use Rattle.frame_writer.specs.Frames.{Frame}
use Rattle.info_header.specs.declared.fields.Info.{Info}
use Rattle.joined_inputs.specs.Parts.{join_parts, parts_task}
use Rattle.laying.specs.{KeptFields.fields_of_head, LaidFiles.laid_file, Needs.need_of}
use Rattle.laying.specs.NeedsFit.{own_choice}
use Rattle.laying.specs.Relaid.{FilePart, part_frames, part_rows, part_stream, relaid_frames}
use Rattle.laying.specs.{Relaid.stream_with_lead_ins, Written.{front_blocks, info_for}}
use Rattle.list_edits.specs.Totals.{lost_count}
use Rattle.seam_plan.specs.Frames.{Brought, needs_of, SpliceFrame}
use Rattle.seam_plan.specs.Seams.{JointFrames, left_out_count, seamless_join, SeamlessJoin}
use Rattle.seam_plan.specs.{Seams.splice_of, declared.seam.Seam.Seam}
use Rattle.seam_plan.specs.declared.seam.Seam.TheVariants.{Follows, LeadIn, Whole}
use Rattle.side_info.specs.{Side.side_bits, declared.{granule.Granule.Granule, side.Side.Side}}
use Rattle.slot_plan.specs.{LeastPlan.least_plan, declared.needs.Placed.Placed}
use Rattle.sync_survey.specs.{HeadApart.head_apart, MainData.StreamFrame, Row.Row}

-- ---- what an input brings

-- the part with its survey's head set apart
abbrev pub part_without_head : FilePart → FilePart
part_without_head p = record p { survey = survey_without_head p.survey }

-- the side information without its gains
abbrev pub without_gains : Side → Side
without_gains s =
    record s { granules = map (map (λ (g : Granule). record g { global_gain = 0 })) s.granules }

-- The sound of a frame of a stream of this class: its header, its side information without the
-- gains, and its main data. Two frames are alike if their sounds are the same.
abbrev pub sound_of : ClassFields → StreamFrame → List ℕ
sound_of class f =
    header_bits f.header ++ (side_bits class (without_gains f.side) ++ concat f.payload)

-- a frame as it takes part in the decision
abbrev pub splice_frame : ClassFields → Row × StreamFrame → SpliceFrame
splice_frame class f = record { need = need_of f.0; sound = sound_of class f.1 }

-- the frames of an input as they take part in the decision
abbrev pub splice_frames : FilePart → List SpliceFrame
splice_frames p = map (splice_frame p.survey.class) (zip (part_rows p) (part_stream p))

-- all bits of the frame's side information are 0
abbrev pub is_side_blank : Row → Bool
is_side_blank r = list_all (λ bit. bit == 0) (side_bits (class_of r.header) r.side)

-- all bits of the side information of the first of these frames are 0, as it is in the file
abbrev pub begins_blank : List Row → Bool
begins_blank [] = false
begins_blank (r ∷ rows) = is_side_blank r

-- the fields of the head of an input, if it has one
abbrev pub part_head : FilePart → Option Info
part_head p = fields_of_head p.file p.survey.head

-- what this input, all frames of a file, brings
abbrev pub part_brought : FilePart → Brought
part_brought p = record {
  frames = splice_frames (part_without_head p);
  blank = begins_blank p.survey.frames;
  played = counted_positions (part_head p) p.survey.class (length p.survey.frames);
}

-- ---- the splice

-- what becomes of the inputs
abbrev pub join_of_parts : FilePart → List FilePart → SeamlessJoin
join_of_parts first parts =
    seamless_join first.survey.class (part_brought first) (map part_brought parts)

-- the frames of an input that are written: all but the first `from`
abbrev pub part_from : ℕ → FilePart → FilePart
part_from from p = record (part_without_head p) { from = from }

-- the part of each later input
abbrev pub later_parts : List JointFrames → List FilePart → List FilePart
later_parts joints parts =
    map (λ (j : JointFrames × FilePart). part_from (left_out_count j.0.seam) j.1) (zip joints parts)

-- the parts of all inputs, whose frames are the splice
abbrev pub splice_parts : FilePart → List FilePart → List FilePart
splice_parts first parts =
    let joined = join_of_parts first parts in
    part_from joined.front first ∷ later_parts joined.joints parts

-- The slots of the plan of the splice, which is one part: each frame keeps its own, except that the
-- first of an input has the one in which it joined.
abbrev pub splice_plan : FilePart → List FilePart → List Placed
splice_plan first parts =
    least_plan (window_of first.survey.class.version) own_choice
    (needs_of (splice_of (part_brought first) (join_of_parts first parts)) ∷ [])

-- the frames with all main data, in these slots
abbrev pub seamless_frames : FilePart → List FilePart → List Frame
seamless_frames first parts =
    relaid_frames (flat_map part_frames (splice_parts first parts)) (splice_plan first parts)

-- how many lead-ins the splice has
abbrev pub splice_lead_ins : FilePart → List FilePart → ℕ
splice_lead_ins first parts =
    length (splice_plan first parts)
    - length (splice_of (part_brought first) (join_of_parts first parts))

-- ---- the numbers

-- the last input
abbrev pub last_part : FilePart → List FilePart → FilePart
last_part first [] = first
last_part first (p ∷ parts) = last_part p parts

-- how many positions of an input are after the last played one
abbrev pub part_rest : FilePart → ℕ
part_rest p =
    let frames = length p.survey.frames in
    rest_of p.survey.class frames (played_of (part_head p) p.survey.class frames)

-- The delay: the delay of the first input, plus a frame for each lead-in of the splice, and less a
-- frame if the first input's lead-in was left out.
abbrev pub seamless_delay : Played → FilePart → List FilePart → ℕ
seamless_delay played first parts =
    let samples = samples_in first.survey.class in
    played.start + splice_lead_ins first parts * samples
    - (join_of_parts first parts).front * samples
    - decoder_delay

-- the padding: the padding of the last input
abbrev pub seamless_padding : FilePart → List FilePart → ℕ
seamless_padding first parts = part_rest (last_part first parts) + decoder_delay

-- delay and padding are written if the first head counts and the delay has 12 bits
abbrev pub delay_of_splice : FilePart → List FilePart → Option ℕ
delay_of_splice first parts =
    option_and_then
    (λ (played : Played). let delay = seamless_delay played first parts in
    if nat_le delay 4095 then Some delay else None)
    (part_brought first).played

-- ---- the Info frame

-- the bytes 11 to 18 of an extension: the peak and the two gains of ReplayGain, which are values of
-- a whole song or album
abbrev pub replay_gain : List ℕ → List ℕ
replay_gain extension = take 8 (drop 11 extension)

-- what a head says of peak and gains; nothing if there is no head
abbrev pub gain_of : Option Info → List ℕ
gain_of None = []
gain_of (Some head) = replay_gain head.extension

-- the head counts and has these values of peak and gains
abbrev pub part_says_gain : List ℕ → FilePart → Bool
part_says_gain gain p = is_some (part_brought p).played && bytes_eq (gain_of (part_head p)) gain

-- the extension with this delay: the first head's extension, whose peak and gains stay only if the
-- heads of all inputs have the same values
abbrev pub splice_extension : ℕ → FilePart → List FilePart → List ℕ
splice_extension delay first parts =
    let extension = extension_of (part_head first) delay (seamless_padding first parts) in
    if list_all (part_says_gain (replay_gain extension)) parts then extension
    else take 11 extension ++ (replicate 8 0 ++ drop 19 extension)

-- The fields of the Info frame: with numbers, the first head's quality and this extension, with
-- music length and tag CRC; otherwise no quality, and all 0.
abbrev pub seamless_info : Option ℕ → Row → FilePart → List FilePart → Info
seamless_info None row first parts =
    info_for first.survey.class (seamless_frames first parts) None (replicate 36 0)
seamless_info (Some delay) row first parts =
    sealed_info row.header
    (info_for first.survey.class (seamless_frames first parts) (quality_of (part_head first))
    (splice_extension delay first parts))

-- ---- the file

-- The ID3v2 blocks before the first frame of the first input, the Info
-- frame with the header of the first frame of the splice, and the frames.
abbrev pub seamless_row_file : Option Row → FilePart → List FilePart → List ℕ
seamless_row_file None first parts = []
seamless_row_file (Some row) first parts =
    laid_file (front_blocks first.file first.survey)
    row.header (seamless_info (delay_of_splice first parts) row first parts)
    (seamless_frames first parts) []

-- the file of these inputs without seams
unfoldable pub seamless_file : List FilePart → List ℕ
seamless_file [] = []
seamless_file (first ∷ parts) =
    seamless_row_file (slice_get first.survey.frames (join_of_parts first parts).front) first parts

-- its stream: at most one lead-in, and the frames of the
-- splice as they are in the streams whose heads are set apart
unfoldable pub seamless_stream : List FilePart → List StreamFrame
seamless_stream [] = []
seamless_stream (first ∷ parts) =
    stream_with_lead_ins (splice_plan first parts) (flat_map part_stream (splice_parts first parts))

-- ---- the text

-- what a line says about a seam
abbrev pub seam_text : Seam → List ℕ
seam_text (Follows frames) = codes "follows, " ++ (decimal frames ++ codes " frames left out")
seam_text LeadIn = codes "lead-in left out"
seam_text Whole = codes "whole"

-- what a line says about this many lost frames; nothing if there is none
abbrev pub lost_frames_text : ℕ → List ℕ
lost_frames_text count =
    if count == 0 then [] else codes ", " ++ (decimal count ++ codes " frames lost")

-- an input after the first, as its line tells it: its name, what became of it, and how many of its
-- lost frames are written, as silence
pub record ToldInput : Type 0 where
  pub name : List ℕ
  pub seam : Seam
  pub lost : ℕ

-- the line of an input: its name, its seam, and how many of its frames are lost
abbrev pub seam_line : List ℕ → Seam → ℕ → List ℕ
seam_line name seam lost =
    name ++ (codes ": " ++ (seam_text seam ++ (lost_frames_text lost ++ codes "\n")))

-- the line that tells this
abbrev pub told_line : ToldInput → List ℕ
told_line t = seam_line t.name t.seam t.lost

-- How many lost frames of an input are written, as silence, if its first `from` frames are left
-- out. They are lost in the file, or because they point into its head.
abbrev pub written_lost : ℕ → FilePart → ℕ
written_lost from p = lost_count (drop from (head_apart p.survey).frames)

-- what is told of inputs with these names, given what became of each
abbrev pub told_of : List (List ℕ) → List JointFrames → List FilePart → List ToldInput
told_of (name ∷ names) (j ∷ joints) (p ∷ parts) = record {
  name = name;
  seam = j.seam;
  lost = written_lost (left_out_count j.seam) p;
} ∷ told_of names joints parts
told_of _ _ _ = []

-- a line for each input after the first
unfoldable pub seamless_text : List (List ℕ) → List FilePart → List ℕ
seamless_text names [] = []
seamless_text names (first ∷ parts) =
    flat_map told_line (told_of (drop 1 names) (join_of_parts first parts).joints parts)

-- ---- the command

-- the text for the inputs; empty if they are refused
abbrev pub seamless_text_or_none : List (List ℕ) → Result (List FilePart) EditFault → List ℕ
seamless_text_or_none names (Err fault) = []
seamless_text_or_none names (Ok parts) = seamless_text names parts

-- it takes the inputs that `join` takes, and refuses nothing more
abbrev pub seamless_task : List (List ℕ) → Task
seamless_task inputs = parts_task seamless_file seamless_stream inputs

-- the file is made, and then the text is sent
abbrev pub seamless_command : List ℕ → List (List ℕ) → Command
seamless_command output inputs =
    telling_command (λ files. seamless_text_or_none inputs (join_parts files inputs))
    (one_command (seamless_task inputs) output)
