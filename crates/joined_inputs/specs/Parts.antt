-- All frames of several files, or why they can't be joined; and a task that makes one file of them.
use Rattle.std.specs.Prelude.{Bool, Err, false, if◌then◌else◌, length, List, nat_lt, None, Ok}
use Rattle.std.specs.Prelude.{Option, Result, Some, true, unwrap_or, ℕ, [], ◌&&◌, ◌+◌, ◌-◌, ◌∷◌}
use Rattle.commands.specs.{Refusing.then_made, SingleOutput.{first_input, most_frames, Task}}
use Rattle.commands.specs.declared.fault.EditFault.{EditFault, TheVariants.{Input, Refused}}
use Rattle.commands.specs.declared.fault.Refusal.{Refusal, TheVariants.Differ}
use Rattle.frame_header.specs.Fields.{ClassFields, same_class}
use Rattle.laying.specs.Relaid.{FilePart}
use Rattle.outside.specs.Files.{Contents}
use Rattle.sync_survey.specs.{Faults.SurveyFields, MainData.StreamFrame, Survey.survey_of}
use Rattle.sync_survey.specs.declared.survey_fault.SurveyFault.{SurveyFault, TheVariants.Absent}

-- ---- the inputs

-- all frames of a file with this survey
abbrev pub whole_part : List ℕ → SurveyFields → FilePart
whole_part file s = record { file = file; survey = s; from = 0; to = length s.frames }

-- an input of this class may follow: any if there is no input before it, otherwise one of the first
-- input's class
abbrev pub may_join : Option ClassFields → ClassFields → Bool
may_join None class = true
may_join (Some first) class = same_class class first

-- all frames of the input with this number, given its survey, or why it is refused
abbrev pub surveyed_part : ℕ → Option ClassFields → List ℕ → Result SurveyFields SurveyFault
    → Result FilePart EditFault
surveyed_part number first file (Err fault) = Err (Input number fault)
surveyed_part number first file (Ok s) =
    if may_join first s.class then Ok (whole_part file s) else Err (Refused (Differ number))

-- All frames of the input with this number, counted from 0, which may have `allowed` frames. It is
-- refused if it isn't there, then if it has a fault, and then if its frames are of another class
-- than the first input's.
abbrev pub join_part : ℕ → Option ClassFields → ℕ → Option (List ℕ) → Result FilePart EditFault
join_part number first allowed None = Err (Input number Absent)
join_part number first allowed (Some file) =
    surveyed_part number first file (survey_of file allowed)

-- the inputs from this number on, or the first refusal; together they may have `allowed` frames
unfoldable pub join_parts_from : ℕ → Option ClassFields → ℕ → Contents → List (List ℕ)
    → Result (List FilePart) EditFault
join_parts_from number first allowed files [] = Ok []
join_parts_from number first allowed files (name ∷ names) =
    then_made (join_part number first allowed (files name))
    (λ part. then_made (join_parts_from (number + 1) (Some (unwrap_or first part.survey.class))
    (allowed - length part.survey.frames) files names) (λ parts. Ok (part ∷ parts)))

-- the inputs with these names, or the first refusal
abbrev pub join_parts : Contents → List (List ℕ) → Result (List FilePart) EditFault
join_parts files names = join_parts_from 0 None most_frames files names

-- ---- what is made of them

-- any of the `count` inputs after the first may differ from it
abbrev pub join_refuses : ℕ → Refusal → Bool
join_refuses count (Differ number) = nat_lt 0 number && nat_lt number count
join_refuses count _ = false

-- the stream of what is made of the inputs; empty if they are refused
abbrev pub parts_stream : (List FilePart → List StreamFrame) → Result (List FilePart) EditFault
    → List StreamFrame
parts_stream stream (Err fault) = []
parts_stream stream (Ok parts) = stream parts

-- it reads all frames of these inputs, and makes this file of them, which has to hold this stream
abbrev pub parts_task : (List FilePart → List ℕ) → (List FilePart → List StreamFrame)
    → List (List ℕ) → Task
parts_task file stream inputs = record {
  source = first_input inputs;
  inputs = inputs;
  sources = inputs;
  makes = λ files. then_made (join_parts files inputs) (λ parts. Ok (file parts));
  stream = λ files. parts_stream stream (join_parts files inputs);
  refuses = join_refuses (length inputs);
}
