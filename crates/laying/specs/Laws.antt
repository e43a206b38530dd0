-- Laws of files of chosen frames.
use Rattle.std.specs.Prelude.{flat_map, length, List, map, Ok, ℕ, ◌<◌, ◌≡◌, ◌≤◌}
use Rattle.frame_header.specs.Fields.{ClassFields, HeaderFields, IsHeader, SlotFields}
use Rattle.frame_header.specs.Tables.{class_of, window_of}
use Rattle.frame_writer.specs.{Frames.{all_frame_data, Frame}, Laid.CanDataBeLaid}
use Rattle.info_header.specs.declared.fields.Info.{Info}
use Rattle.laying.specs.Fits.{FitsFromReach, IsFittingPlan}
use Rattle.laying.specs.Laid.{file_laid, LaidPart, needs_laid}
use Rattle.laying.specs.LaidFiles.{AreBlocks, AreStreamEntries, HasInfoSizes, laid_file}
use Rattle.laying.specs.{LaidFiles.stream_entry, LaidLaws.LosesNoFrame}
use Rattle.laying.specs.{Needs.{need_of, needs_of_parts, plan_input}, NeedsFit.IsFitPlanInput}
use Rattle.laying.specs.Relaid.{AreParts, AreSlots, FilePart, IsPart, part_frames, part_needs}
use Rattle.laying.specs.Relaid.{part_stream, relaid_frames, stream_with_lead_ins}
use Rattle.laying.specs.{Surveys.CanBeRelaid, Written.{back_blocks, front_blocks, slot_in}}
use Rattle.slot_plan.specs.{Parts.{needs_in_parts, window_in}, Plans.IsPlan}
use Rattle.slot_plan.specs.declared.needs.Placed.{Placed}
use Rattle.sync_survey.specs.Faults.{HoldsStream, survey_fields, SurveyFields}
use Rattle.sync_survey.specs.{MainData.StreamFrame, Row.Row}

-- there are frames; they are of this class, their main data can be
-- laid where their side information says, and this is their stream
pub record AreFramesOfStream (c : ClassFields) (frames : List Frame)
    (stream : List StreamFrame) : Type 0 where
  pub some : 0 < length frames
  pub entries : AreStreamEntries c frames
  pub fit : CanDataBeLaid (all_frame_data frames)
  pub stream_is : map stream_entry frames ≡ stream

-- the frames of parts, placed as planned, can be laid, and are the
-- lead-ins and the otherwise unchanged frames of the files' streams
abbrev pub EntriesHold : Type 0
EntriesHold =
    (c : ClassFields) (choices : HeaderFields → List SlotFields) (parts : List FilePart)
    (placed : List Placed) → 1 ≤ length parts → AreParts c parts → AreSlots choices
    → IsPlan (window_of c.version) choices (map part_needs parts) placed → AreFramesOfStream c
    (relaid_frames (flat_map part_frames parts) placed)
    (stream_with_lead_ins placed (flat_map part_stream parts))

-- this is true of each file of these frames between blocks and after an Info frame of their class
abbrev pub EachLaidFile : ClassFields → List Frame → (List ℕ → Type 0) → Type 0
EachLaidFile c frames P =
    (front : List (List ℕ)) (first : HeaderFields) (info : Info) (back : List (List ℕ))
    → AreBlocks front → IsHeader first → class_of first ≡ c → HasInfoSizes info → AreBlocks back
    → P (laid_file front first info frames back)

-- a file of them between blocks and after an Info frame is well-formed and has that stream
abbrev pub FilesHold : Type 0
FilesHold =
    (c : ClassFields) (choices : HeaderFields → List SlotFields) (parts : List FilePart)
    (placed : List Placed) → 1 ≤ length parts → AreParts c parts → AreSlots choices
    → IsPlan (window_of c.version) choices (map part_needs parts) placed
    → EachLaidFile c (relaid_frames (flat_map part_frames parts) placed)
    (λ file. HoldsStream file (stream_with_lead_ins placed (flat_map part_stream parts)))

-- by a survey of a file without fault its frames can be repacked
abbrev pub SurveysCanBeRelaid : Type 0
SurveysCanBeRelaid = (file : List ℕ) (allowed : ℕ) (s : SurveyFields)
    → survey_fields file allowed ≡ Ok s → CanBeRelaid file s

-- the blocks kept from a file may be in such a file
abbrev pub BlocksAreKept : Type 0
BlocksAreKept = (file : List ℕ) (s : SurveyFields) → CanBeRelaid file s
    → AreBlocks (front_blocks file s) × AreBlocks (back_blocks file s)

-- a plan of parts can be written frame by frame, with no frames before it
abbrev pub PlansFit : Type 0
PlansFit =
    (window : ℕ) (choices : HeaderFields → List SlotFields) (parts : List (List Row))
    (placed : List Placed) → IsPlan window choices (map (map need_of) parts) placed
    → FitsFromReach window 0 (needs_of_parts parts) placed

-- a plan made for parts concatenated as the planner takes them is a plan of the parts
abbrev pub PlansAreOfParts : Type 0
PlansAreOfParts =
    (c : ClassFields) (choices : HeaderFields → List SlotFields) (parts : List (List Row))
    (placed : List Placed) → IsFitPlanInput c (plan_input parts)
    → IsPlan (window_in (plan_input parts).needs)
    choices (needs_in_parts (plan_input parts).needs (plan_input parts).places) placed
    → IsPlan (window_of c.version) choices (map (map need_of) parts) placed

-- a file of the frames of a part in the slots of any plan that can be written frame
-- by frame is well-formed, and its stream is the lead-ins of the plan and the frames
abbrev pub FittingFilesHold : Type 0
FittingFilesHold =
    (c : ClassFields) (part : FilePart) (placed : List Placed) → IsPart c part
    → IsFittingPlan (window_of c.version) (part_needs part) placed
    → EachLaidFile c (relaid_frames (part_frames part) placed)
    (λ file. HoldsStream file (stream_with_lead_ins placed (part_stream part)))

-- these frames are in the slots of the plan, one for each place
abbrev pub FittingSlots : Type 0
FittingSlots =
    (c : ClassFields) (part : FilePart) (placed : List Placed) → IsPart c part
    → IsFittingPlan (window_of c.version) (part_needs part) placed
    → map slot_in (relaid_frames (part_frames part) placed) ≡ map (λ (p : Placed). p.slot) placed

-- ---- no frame of them is lost

-- no frame of a file of chosen frames is lost, whether or not
-- its head is set apart, whatever slots they can be laid in
abbrev pub ChosenFramesStay : Type 0
ChosenFramesStay =
    (laid : LaidPart) (file : List ℕ) (s : SurveyFields) → CanBeRelaid file s → laid.from < laid.to
    → laid.to ≤ length s.frames → length laid.extension ≡ 36
    → IsFittingPlan (window_of s.class.version) (needs_laid laid s) laid.placed
    → LosesNoFrame (file_laid laid file s)

-- no frame of a file of parts placed as planned is lost either
abbrev pub PlannedFramesStay : Type 0
PlannedFramesStay =
    (c : ClassFields) (choices : HeaderFields → List SlotFields) (parts : List FilePart)
    (placed : List Placed) → 1 ≤ length parts → AreParts c parts → AreSlots choices
    → IsPlan (window_of c.version) choices (map part_needs parts) placed
    → EachLaidFile c (relaid_frames (flat_map part_frames parts) placed) LosesNoFrame
