-- The salvage command: what is left of a damaged file, repacked, and a text that says what is
-- missing.
use Rattle.std.specs.Prelude.{Bool, Err, false, length, List, None, Ok, Option, replicate, Result}
use Rattle.std.specs.Prelude.{Some, ℕ, [], ◌∷◌}
use Rattle.commands.specs.{Command.Command, SingleOutput.{one_command, Task}}
use Rattle.commands.specs.{WithText.telling_command, declared.fault.EditFault.EditFault}
use Rattle.commands.specs.declared.fault.{EditFault.TheVariants.Input, Refusal.Refusal}
use Rattle.cut_edits.specs.Chosen.{Chosen, chosen_file, own_slots_plan}
use Rattle.laying.specs.Relaid.{stream_with_lead_ins}
use Rattle.salvage.specs.{DamagedFiles.{damaged_of, DamagedFields}, Stream.salvaged_stream}
use Rattle.salvage.specs.Text.{salvage_text}
use Rattle.sync_survey.specs.{Faults.SurveyFields, HeadApart.emptied_survey, MainData.StreamFrame}
use Rattle.sync_survey.specs.declared.survey_fault.SurveyFault.{SurveyFault, TheVariants.Absent}

-- ---- the file

-- all frames; the Info frame has no quality, and its extension is all 0
abbrev pub all_chosen : SurveyFields → Chosen
all_chosen s = record { from = 0; to = length s.frames; quality = None; extension = replicate 36 0 }

-- What is left, laid out as a cut: the ID3v2 blocks before the first frame, an Info frame, all
-- frames, and all other blocks that were read. A frame whose main data can't be used has none.
unfoldable pub salvaged_file : List ℕ → DamagedFields → List ℕ
salvaged_file file d =
    chosen_file (all_chosen (emptied_survey d.survey)) file (emptied_survey d.survey)

-- its stream: the lead-ins of the plan, and what is left of the file, island by island
unfoldable pub left_stream : List ℕ → DamagedFields → List StreamFrame
left_stream file d =
    stream_with_lead_ins (own_slots_plan (all_chosen (emptied_survey d.survey))
    (emptied_survey d.survey)) (salvaged_stream file)

-- ---- the command

-- what is made of what was read, or why nothing is
abbrev pub salvaged_or_fault : List ℕ → Result DamagedFields SurveyFault → Result (List ℕ) EditFault
salvaged_or_fault file (Err fault) = Err (Input 0 fault)
salvaged_or_fault file (Ok d) = Ok (salvaged_file file d)

-- what is made of the file, if it is there
abbrev pub input_salvaged : Option (List ℕ) → Result (List ℕ) EditFault
input_salvaged None = Err (Input 0 Absent)
input_salvaged (Some file) = salvaged_or_fault file (damaged_of file)

-- the stream of what was read; empty if nothing was
abbrev pub left_stream_or_none : List ℕ → Result DamagedFields SurveyFault → List StreamFrame
left_stream_or_none file (Err fault) = []
left_stream_or_none file (Ok d) = left_stream file d

-- the stream of what was read of the file; empty if it isn't there
abbrev pub input_left_stream : Option (List ℕ) → List StreamFrame
input_left_stream None = []
input_left_stream (Some file) = left_stream_or_none file (damaged_of file)

-- the text of what was read; empty if nothing was
abbrev pub salvage_text_or_none : Result DamagedFields SurveyFault → List ℕ
salvage_text_or_none (Err fault) = []
salvage_text_or_none (Ok d) = salvage_text d

-- the text of what was read of the file; empty if it isn't there
abbrev pub input_salvage_text : Option (List ℕ) → List ℕ
input_salvage_text None = []
input_salvage_text (Some file) = salvage_text_or_none (damaged_of file)

-- a file that has a frame isn't refused
abbrev pub salvage_refuses : Refusal → Bool
salvage_refuses refusal = false

-- the input needn't be well-formed
abbrev pub salvage_task : List ℕ → Task
salvage_task input = record {
  source = input;
  inputs = input ∷ [];
  sources = [];
  makes = λ files. input_salvaged (files input);
  stream = λ files. input_left_stream (files input);
  refuses = salvage_refuses;
}

-- the file is made, and then the text is sent
abbrev pub salvage_command : List ℕ → List ℕ → Command
salvage_command input output =
    telling_command (λ files. input_salvage_text (files input))
    (one_command (salvage_task input) output)
