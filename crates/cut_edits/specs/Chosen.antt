-- A file of frames chosen from another and repacked into slots: what is cut out, and what is
-- packed.
use Rattle.std.specs.Prelude.{Bool, Err, false, if◌then◌else◌, length, List, map, nat_le, nat_lt}
use Rattle.std.specs.Prelude.{None, Ok, Option, replicate, Result, slice_range, Some, true, ℕ, []}
use Rattle.std.specs.Prelude.{◌&&◌, ◌<◌, ◌∷◌, ◌≡◌, ◌≤◌, ◌⊎◌}
use Rattle.commands.specs.{Command.Command, Refusing.{refusal_or, then_made}}
use Rattle.commands.specs.SingleOutput.{file_task, Making, most_frames, one_command, Task}
use Rattle.commands.specs.declared.fault.{EditFault.EditFault, Refusal.{Refusal, TheVariants.Range}}
use Rattle.cue_sheet.specs.{Places.frame_at, declared.place.Place.Place}
use Rattle.cut_edits.specs.declared.chosen.Chosen.{Chosen as CodeChosen}
use Rattle.frame_header.specs.{Fields.{ClassFields, HeaderFields, SlotFields}, Tables.window_of}
use Rattle.laying.specs.Laid.{file_laid, IsWritableSelection, LaidPart, selected_part, source_part}
use Rattle.laying.specs.{Laid.stream_laid, Needs.need_of, NeedsFit.{any_choice, own_choice}}
use Rattle.laying.specs.{Relaid.FilePart, Written.head_info, declared.selected.Selected.Selected}
use Rattle.slot_plan.specs.{LeastPlan.least_plan, declared.needs.{Need.Need, Placed.Placed}}
use Rattle.sync_survey.specs.{Faults.SurveyFields, MainData.StreamFrame, Row.Row}
use Rattle.sync_survey.specs.Survey.{IsSurveyLaidOut, survey_of}
use Rattle.sync_survey.specs.declared.survey_fault.SurveyFault.{SurveyFault}

-- ---- what is chosen

-- The frames from one up to, but not including, another, and the quality and extension for the Info
-- frame.
pub record Chosen : Type 0 where
  pub from : ℕ
  pub to : ℕ
  pub quality : Option ℕ
  pub extension : List ℕ

-- there is a frame between them, and all are there, in a survey with at most `most` frames
pub record AreChosenThere (most : ℕ) (chosen : Chosen) (s : SurveyFields) : Type 0 where
  pub laid : IsSurveyLaidOut s
  pub few : length s.frames ≤ most
  pub some : chosen.from < chosen.to
  pub within : chosen.to ≤ length s.frames

-- the choice that the code holds in a struct
abbrev pub chosen_in : CodeChosen → Chosen
chosen_in chosen = record {
  from = chosen.from;
  to = chosen.to;
  quality = chosen.kept.quality;
  extension = chosen.kept.extension;
}

-- there is no frame between them, or not all of these frames are there
abbrev pub outside_fault : ℕ → ℕ → ℕ → Option Refusal
outside_fault from to frames =
    if nat_lt from to && nat_le to frames then None else Some (Range from to frames)

-- ---- the file of the chosen frames

-- the chosen frames, as they are in the survey
abbrev pub chosen_rows : Chosen → SurveyFields → List Row
chosen_rows chosen s = slice_range s.frames chosen.from chosen.to

-- the needs of the chosen frames, for which the plan is made
abbrev pub chosen_needs : Chosen → SurveyFields → List Need
chosen_needs chosen s = map need_of (chosen_rows chosen s)

-- each frame keeps its own slot, or may have any
abbrev pub AreUsualChoices : (HeaderFields → List SlotFields) → Type 0
AreUsualChoices choices = (choices ≡ own_choice) ⊎ (choices ≡ any_choice)

-- The slots of their plan: of all lists the first, in order of areas, for which there is a layout,
-- with a lead-in only if there is none without.
abbrev pub first_plan : (HeaderFields → List SlotFields) → ClassFields → List Need → List Placed
first_plan choices class needs = least_plan (window_of class.version) choices (needs ∷ [])

-- the plan of the chosen frames in their own slots
abbrev pub own_slots_plan : Chosen → SurveyFields → List Placed
own_slots_plan chosen s = first_plan own_choice s.class (chosen_needs chosen s)

-- the chosen frames in the slots of a plan
abbrev pub placed_part : Chosen → List Placed → LaidPart
placed_part chosen placed = record {
  from = chosen.from;
  to = chosen.to;
  placed = placed;
  quality = chosen.quality;
  extension = chosen.extension;
}

-- these were prepared: the chosen frames in the slots of their plan, which can be written
pub record IsSelected (choices : HeaderFields → List SlotFields) (chosen : Chosen)
    (s : SurveyFields) (selected : Selected) : Type 0 where
  pub laid : selected_part selected
      ≡ placed_part chosen (first_plan choices s.class (chosen_needs chosen s))
  pub writable : IsWritableSelection s selected

-- the chosen frames in their own slots
abbrev pub own_slots_part : Chosen → SurveyFields → LaidPart
own_slots_part chosen s = placed_part chosen (own_slots_plan chosen s)

-- the chosen frames as a part of their file
abbrev pub chosen_file_part : Chosen → List ℕ → SurveyFields → FilePart
chosen_file_part chosen file s = source_part (own_slots_part chosen s) file s

-- The file of the chosen frames in their own slots: the ID3v2 blocks before the first frame or the
-- head; an Info frame with the header of the first chosen frame; the lead-in and the frames, with
-- all main data laid into their slots; all other blocks in their order.
unfoldable pub chosen_file : Chosen → List ℕ → SurveyFields → List ℕ
chosen_file chosen file s = file_laid (own_slots_part chosen s) file s

-- its stream: at most one lead-in, and the frames as they are in the stream of the file
unfoldable pub chosen_stream : Chosen → List ℕ → SurveyFields → List StreamFrame
chosen_stream chosen file s = stream_laid (own_slots_part chosen s) file s

-- ---- the commands

-- what a command chooses from a file with this survey, or why it refuses it
abbrev pub Choosing : Type 0
Choosing = List ℕ → SurveyFields → Result Chosen EditFault

-- the plan of frames of a class, or why there is none
abbrev pub Planning : Type 0
Planning = ClassFields → List Need → Result (List Placed) EditFault

-- well-formed files always have a first plan
abbrev pub first_planning : (HeaderFields → List SlotFields) → Planning
first_planning choices class needs = Ok (first_plan choices class needs)

-- these frames in the slots of their plan
abbrev pub planned_part : Planning → SurveyFields → Chosen → Result LaidPart EditFault
planned_part plan s chosen =
    then_made (plan s.class (chosen_needs chosen s)) (λ placed. Ok (placed_part chosen placed))

-- what such a command lays from a file with this survey, or why it refuses it
unfoldable pub laying_part : Choosing → Planning → List ℕ → SurveyFields → Result LaidPart EditFault
laying_part choose plan file s = then_made (choose file s) (planned_part plan s)

-- the file of what is laid
abbrev pub laying_making : Choosing → Planning → Making
laying_making choose plan file s =
    then_made (laying_part choose plan file s) (λ laid. Ok (file_laid laid file s))

-- the stream of what is laid; empty if nothing is laid
abbrev pub laid_stream_or_none : List ℕ → SurveyFields → Result LaidPart EditFault
    → List StreamFrame
laid_stream_or_none file s (Err fault) = []
laid_stream_or_none file s (Ok laid) = stream_laid laid file s

-- the stream of what is laid from a file with this survey; empty if the survey has a fault
abbrev pub surveyed_laid_stream : Choosing → Planning → List ℕ → Result SurveyFields SurveyFault
    → List StreamFrame
surveyed_laid_stream choose plan file (Err fault) = []
surveyed_laid_stream choose plan file (Ok s) =
    laid_stream_or_none file s (laying_part choose plan file s)

-- the stream of what is written; empty if nothing is written
abbrev pub laying_stream : Choosing → Planning → List ℕ → List StreamFrame
laying_stream choose plan file = surveyed_laid_stream choose plan file (survey_of file most_frames)

-- it makes the file of the chosen frames in the slots of their plan
abbrev pub laying_task : Choosing → Planning → (Refusal → Bool) → List ℕ → Task
laying_task choose plan refuses input =
    file_task (laying_making choose plan) (laying_stream choose plan) refuses input

-- the frames between two numbers, if there is one and all are there
abbrev pub chosen_range : Option ℕ → List ℕ → ℕ → ℕ → ℕ → Result Chosen EditFault
chosen_range quality extension from to frames =
    refusal_or (outside_fault from to frames) (record {
      from = from;
      to = to;
      quality = quality;
      extension = extension;
    })

-- the frames from one position to another, with no quality and an extension of zeros for the Info
-- frame
unfoldable pub cut_choice : Place → Place → Choosing
cut_choice from to file s =
    chosen_range None (replicate 36 0)
    (frame_at s.class (length s.frames) from) (frame_at s.class (length s.frames) to)
    (length s.frames)

-- all frames, with the quality and extension that the head has
unfoldable pub all_choice : Choosing
all_choice file s =
    chosen_range (head_info file s.head).quality (head_info file s.head).extension
    0 (length s.frames) (length s.frames)

-- a cut may refuse its positions
abbrev pub cut_refuses : Refusal → Bool
cut_refuses (Range from to frames) = true
cut_refuses _ = false

-- a packing with the least slots refuses nothing
abbrev pub pack_refuses : Refusal → Bool
pack_refuses refusal = false

-- each frame gets the least slot, or keeps its own
abbrev pub slot_choices : Bool → HeaderFields → List SlotFields
slot_choices true = any_choice
slot_choices false = own_choice

-- the output is the input's frames between two positions
abbrev pub cut_command : Place → Place → Bool → List ℕ → List ℕ → Command
cut_command from to least input output =
    one_command
    (laying_task (cut_choice from to) (first_planning (slot_choices least)) cut_refuses input)
    output

-- the output is all frames of the input, in the least slots
abbrev pub pack_command : List ℕ → List ℕ → Command
pack_command input output =
    one_command (laying_task all_choice (first_planning any_choice) pack_refuses input) output
