-- What holds of the streams and plans of the commands that repack main data.
use Rattle.std.specs.Prelude.{false, flat_map, length, List, map, Ok, slice_get, slice_range, Some}
use Rattle.std.specs.Prelude.{true, ℕ, [], ◌<◌, ◌∷◌, ◌≡◌, ◌≢◌, ◌≤◌}
use Rattle.chosen_streams.specs.Exact.{AllConsistOf, IsExactly}
use Rattle.command_table.specs.Table.{chosen_of, command_of, outputs_of}
use Rattle.commands.specs.{Command.{Made, Output}, SingleOutput.most_frames}
use Rattle.cut_edits.specs.Chosen.{AreUsualChoices, Chosen, chosen_needs, first_plan}
use Rattle.cut_edits.specs.Chosen.{own_slots_plan, placed_part}
use Rattle.frame_header.specs.{Fields.{ClassFields, HeaderFields, SlotFields}, Tables.window_of}
use Rattle.job_words.specs.Request.{IsSoundRequest, Request}
use Rattle.join_edits.specs.Join.{joined_plan, joined_stream}
use Rattle.joined_inputs.specs.Parts.{join_parts}
use Rattle.laying.specs.{Laid.stream_laid, Needs.need_of, NeedsFit.own_choice}
use Rattle.laying.specs.Relaid.{AreParts, FilePart, part_needs, part_stream, stream_with_lead_ins}
use Rattle.outside.specs.Files.{Contents}
use Rattle.pack_edits.specs.Modes.{mode_planning}
use Rattle.requests.specs.declared.mode.PackMode.{PackMode}
use Rattle.salvage.specs.{DamagedFiles.{damaged_of, DamagedFields}, Stream.salvaged_stream}
use Rattle.salvage_edits.specs.Salvaged.{all_chosen, left_stream}
use Rattle.seam_plan.specs.{Frames.needs_of, Seams.splice_of}
use Rattle.seamless_edits.specs.Seamless.{join_of_parts, part_brought, splice_plan}
use Rattle.side_info.specs.Side.{no_side}
use Rattle.slot_plan.specs.{Plans.IsPlan, declared.needs.Placed.Placed}
use Rattle.sync_survey.specs.{Faults.{stream_of, SurveyFields}, HeadApart.emptied_survey}
use Rattle.sync_survey.specs.{MainData.{granule_lengths, no_slot, split_bits, StreamFrame}, Row.Row}
use Rattle.sync_survey.specs.Survey.{survey_of}

-- Parts of well-formed files in the slots of their plan: the stream is exactly the frames of each
-- part, in the order of the parts, each part after at most one lead-in.
abbrev pub PlannedStreamsAreExact : Type 0
PlannedStreamsAreExact =
    (class : ClassFields) (choices : HeaderFields → List SlotFields) (parts : List FilePart)
    (placed : List Placed) → AreParts class parts
    → IsPlan (window_of class.version) choices (map part_needs parts) placed
    → IsExactly (map part_stream parts) (stream_with_lead_ins placed (flat_map part_stream parts))

-- The output of a cut, of a packing with the least slots, and each piece
-- of a split holds exactly the chosen frames of the stream of the input.
abbrev pub ChosenStreamsAreExact : Type 0
ChosenStreamsAreExact =
    (choices : HeaderFields → List SlotFields) (chosen : Chosen) (file : List ℕ) (s : SurveyFields)
    → AreUsualChoices choices → survey_of file most_frames ≡ Ok s → chosen.from < chosen.to
    → chosen.to ≤ length s.frames → IsExactly (slice_range (stream_of file) chosen.from chosen.to
    ∷ [])
    (stream_laid (placed_part chosen (first_plan choices s.class (chosen_needs chosen s))) file s)

-- Their plan is the first of all lists of slots, in the order of areas, into which
-- the main data can be laid, with a lead-in only where there is none without.
abbrev pub ChosenPlansAreFirst : Type 0
ChosenPlansAreFirst =
    (choices : HeaderFields → List SlotFields) (chosen : Chosen) (file : List ℕ) (s : SurveyFields)
    → AreUsualChoices choices → survey_of file most_frames ≡ Ok s → chosen.from < chosen.to
    → chosen.to ≤ length s.frames → IsPlan (window_of s.class.version) choices
    (chosen_needs chosen s ∷ []) (first_plan choices s.class (chosen_needs chosen s))

-- The output of a packing, in whichever mode, holds exactly the frames of the stream of the input.
abbrev pub PackedStreamsAreExact : Type 0
PackedStreamsAreExact =
    (mode : PackMode) (chosen : Chosen) (file : List ℕ) (s : SurveyFields) (placed : List Placed)
    → survey_of file most_frames ≡ Ok s → chosen.from < chosen.to → chosen.to ≤ length s.frames
    → mode_planning mode s.class (chosen_needs chosen s) ≡ Ok placed
    → IsExactly (slice_range (stream_of file) chosen.from chosen.to ∷ [])
    (stream_with_lead_ins placed (slice_range (stream_of file) chosen.from chosen.to))

-- The output of a join holds exactly the frames of each part, which are all frames of an input.
abbrev pub JoinedStreamsAreExact : Type 0
JoinedStreamsAreExact =
    (first : FilePart) (parts : List FilePart) → AreParts first.survey.class (first ∷ parts)
    → IsExactly (map part_stream (first ∷ parts)) (joined_stream (first ∷ parts))

-- Its plan is the first of all lists of the frames' own
-- slots, with the lead-in that each part has alone.
abbrev pub JoinedPlansAreFirst : Type 0
JoinedPlansAreFirst =
    (first : FilePart) (parts : List FilePart) → AreParts first.survey.class (first ∷ parts)
    → IsPlan (window_of first.survey.class.version) own_choice (map part_needs (first ∷ parts))
    (joined_plan first.survey.class (first ∷ parts))

-- The plan of a join without seams is the plan of one part: the first
-- of all lists of the slots of the splice's frames, which are their own
-- slots, except for first frames of inputs that joined in greater ones.
abbrev pub SeamlessPlansAreFirst : Type 0
SeamlessPlansAreFirst =
    (files : Contents) (inputs : List (List ℕ)) (first : FilePart) (parts : List FilePart)
    → join_parts files inputs ≡ Ok (first ∷ parts)
    → IsPlan (window_of first.survey.class.version) own_choice
    (needs_of (splice_of (part_brought first) (join_of_parts first parts)) ∷ [])
    (splice_plan first parts)

-- The output of a salvage holds exactly what is left of the damaged file: the
-- frames of all islands, each sound frame as it is, and each other frame empty.
abbrev pub SalvagedStreamsAreExact : Type 0
SalvagedStreamsAreExact = (file : List ℕ) (d : DamagedFields) → damaged_of file ≡ Ok d
    → IsExactly (salvaged_stream file ∷ []) (left_stream file d)

-- Its plan is the first of all lists of the frames' own slots, like the plan of a cut of all
-- frames, where the frames that aren't sound have no main data.
abbrev pub SalvagedPlansAreFirst : Type 0
SalvagedPlansAreFirst =
    (file : List ℕ) (d : DamagedFields) → damaged_of file ≡ Ok d → IsPlan
    (window_of d.survey.class.version) own_choice (map need_of (emptied_survey d.survey).frames
    ∷ []) (own_slots_plan (all_chosen (emptied_survey d.survey)) (emptied_survey d.survey))

-- What is left of a frame that is read: its header, and its side
-- information, or no side information and no main data if it isn't sound.
pub record IsLeftOf (r : Row) (frame : StreamFrame) : Type 0 where
  pub header : frame.header ≡ record r.header { slot = no_slot }
  pub sound : r.lost ≡ false → frame.side ≡ record r.side { main_data_begin = 0 }
  pub empty : r.lost ≡ true
      → (frame.side ≡ no_side) × (frame.payload ≡ split_bits (granule_lengths r.header no_side) [])

-- as many frames are left as are read, in their order
pub record AreLeftOf (rows : List Row) (frames : List StreamFrame) : Type 0 where
  pub many : length frames ≡ length rows
  pub each : (i : ℕ) (r : Row) → slice_get rows i ≡ Some r
      → (frame : StreamFrame) × (slice_get frames i ≡ Some frame) × IsLeftOf r frame

-- each frame that is read is left, even one that isn't sound
abbrev pub SalvagedFramesAreLeft : Type 0
SalvagedFramesAreLeft = (file : List ℕ) (d : DamagedFields) → damaged_of file ≡ Ok d
    → AreLeftOf d.survey.frames (salvaged_stream file)

-- What the command of a job writes, where it isn't
-- refused, holds exactly the frames that it chooses.
abbrev pub HoldsChosen : Request → Type 0
HoldsChosen asked = (files : Contents) (made : Made) → (command_of asked).makes files ≡ Ok made
    → AllConsistOf (chosen_of asked files) ((command_of asked).streams files)

-- whatever is asked for, what is written holds the frames that are chosen
abbrev pub StreamsAreChosen : Type 0
StreamsAreChosen = (asked : Request) → HoldsChosen asked

-- none of these outputs has the name
abbrev pub HasNone : List ℕ → List Output → Type 0
HasNone name [] = Unit {0}
HasNone name (output ∷ outputs) = (name ≢ output.name) × HasNone name outputs

-- the outputs have the first of these names, and no two have the same name
abbrev pub AreNamed : List (List ℕ) → List Output → Type 0
AreNamed names [] = Unit {0}
AreNamed [] (output ∷ outputs) = ⊥
AreNamed (name ∷ names) (output ∷ outputs) =
    (output.name ≡ name) × HasNone output.name outputs × AreNamed names outputs

-- whatever is asked for, what is written has the names that are asked for
abbrev pub OutputsAreNamed : Type 0
OutputsAreNamed = (asked : Request) → IsSoundRequest asked → (files : Contents) (made : Made)
    → (command_of asked).makes files ≡ Ok made → AreNamed (outputs_of asked) made.outputs
