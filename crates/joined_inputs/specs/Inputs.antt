-- The inputs of a join: their surveys, made in order, and which of their frames are written.
use Rattle.std.specs.Prelude.{Err, length, List, map, None, Ok, Option, Some, true, unwrap_or, ℕ}
use Rattle.std.specs.Prelude.{[], ◌+◌, ◌-◌, ◌<◌, ◌∷◌, ◌≡◌, ◌≢◌, ◌≤◌}
use Rattle.commands.specs.{AfterCall.{by_why, no_cause, why_of}, FaultKinds.HasRightNumbers}
use Rattle.commands.specs.SingleOutput.{IsEarlyFault, LosesInput, MissesAt, most_frames}
use Rattle.commands.specs.SingleOutput.{NeedsMemory, ReadsNothing}
use Rattle.commands.specs.declared.fault.EditFault.{EditFault}
use Rattle.commands.specs.declared.fault.EditFault.TheVariants.{Input, Memory, Refused, Write}
use Rattle.frame_header.specs.Fields.{ClassFields}
use Rattle.joined_inputs.specs.Parts.{join_part, join_refuses, parts_task}
use Rattle.joined_inputs.specs.declared.inputs.JoinInput.{JoinInput}
use Rattle.laying.specs.Relaid.{FilePart}
use Rattle.outside.specs.Files.{Contents, Files, Holds, IfTold, IsFileThere, Told, Untold}
use Rattle.outside.specs.Seen.{Seen}
use Rattle.sync_survey.specs.{Faults.{survey_view, SurveyFields}, MainData.StreamFrame, Row.Row}
use Rattle.sync_survey.specs.Survey.{HoldsOctets, IsSurveyLaidOut, survey_of}
use Rattle.sync_survey.specs.declared.survey_fault.SurveyFault.TheVariants.{Memory as NoRoom}

-- ---- one input

-- an input: its name, its survey, and the number of the first of its frames that is written
pub record InputFields : Type 0 where
  pub name : List ℕ
  pub survey : SurveyFields
  pub from : ℕ

-- an input as the code has it
abbrev pub input_view : JoinInput → InputFields
input_view input =
    record { name = input.name.now; survey = survey_view input.survey; from = input.from }

-- the names of these inputs
abbrev pub input_names : List InputFields → List (List ℕ)
input_names inputs = map (λ (i : InputFields). i.name) inputs

-- an input is there and has a frame, and this is its survey, which allows `allowed` frames
pub record IsSurveyed (allowed : ℕ) (files : Files) (name : List ℕ)
    (s : SurveyFields) : Type 0 where
  pub there : IsFileThere files name
  pub exact : (file : List ℕ) → Holds files name file → survey_of file allowed ≡ Ok s
  pub laid : IsSurveyLaidOut s
  pub some : 0 < length s.frames
  pub few : length s.frames ≤ allowed
  pub octets : HoldsOctets name files

-- where the contents of the files are known, an input gives this refusal
abbrev pub GivesFault : ℕ → Option ClassFields → ℕ → List ℕ → Files → EditFault → Type 0
GivesFault number first allowed name files fault =
    IfTold files (λ f. join_part number first allowed (f name) ≡ Err fault)

-- what the fault of an input says about its cause
abbrev pub IsPartFault : ℕ → Option ClassFields → ℕ → List ℕ → Seen → Seen → EditFault → Type 0
IsPartFault number first allowed name old new fault = by_why
    (record no_cause {
      rejected = GivesFault number first allowed name old.files fault × (new ≡ old);
      missing =
          GivesFault number first allowed name old.files fault × MissesAt number name old new fault;
      unread = ReadsNothing number name old new fault;
      shorter = LosesInput number name old new fault;
      no_memory = NeedsMemory name old new;
    })
    (why_of fault)

-- a fault met before the output is created, whatever is made of these inputs
abbrev pub IsEarlyInputFault : List (List ℕ) → Seen → Seen → EditFault → Type 0
IsEarlyInputFault names old new fault =
    (file : List FilePart → List ℕ) → (stream : List FilePart → List StreamFrame)
    → IsEarlyFault (parts_task file stream names) old new fault

-- the fault is one of `count` inputs, of the output, or out of memory; the class of the first input
-- can't differ
abbrev pub HasJoinNumbers : ℕ → EditFault → Type 0
HasJoinNumbers count (Input number fault) =
    (number < count) × (fault ≢ NoRoom) × HasRightNumbers fault
HasJoinNumbers count (Refused refusal) = join_refuses count refusal ≡ true
HasJoinNumbers count (Write number) = number ≡ 0
HasJoinNumbers count Memory = Unit {0}
HasJoinNumbers count _ = ⊥

-- ---- all inputs

-- the class is the first input's class, if there is one
abbrev pub HasClassOfFirst : Option ClassFields → ClassFields → Type 0
HasClassOfFirst None class = Unit {0}
HasClassOfFirst (Some first) class = class ≡ first

-- each is there with its survey, is of the class of the first, has no more frames than those before
-- it leave, and all its frames are written
abbrev pub AreJoinInputs : Option ClassFields → ℕ → Files → List InputFields → Type 0
AreJoinInputs first allowed files [] = Unit {0}
AreJoinInputs first allowed files (i ∷ inputs) =
    IsSurveyed allowed files i.name i.survey × HasClassOfFirst first i.survey.class × (i.from ≡ 0)
    × AreJoinInputs (Some (unwrap_or first i.survey.class)) (allowed - length i.survey.frames) files
    inputs

-- the class of the first of these inputs, if there is one
abbrev pub class_of_first : List InputFields → Option ClassFields
class_of_first [] = None
class_of_first (i ∷ inputs) = Some i.survey.class

-- how many frames these inputs have together
unfoldable pub frames_together : List InputFields → ℕ
frames_together [] = 0
frames_together (i ∷ inputs) = length i.survey.frames + frames_together inputs

-- ---- inputs as parts

-- the frames of each input
abbrev pub survey_rows : List InputFields → List (List Row)
survey_rows inputs = map (λ (i : InputFields). i.survey.frames) inputs

-- each has a frame, and the surveys are of this class
abbrev pub AreInputsOfClass : ClassFields → List InputFields → Type 0
AreInputsOfClass class [] = Unit {0}
AreInputsOfClass class (i ∷ inputs) =
    (0 < length i.survey.frames) × IsSurveyLaidOut i.survey × (i.survey.class ≡ class)
    × AreInputsOfClass class inputs

-- there is at least one input, all are of one class, and they have no more frames than may be
-- planned at once
pub record CanInputsBeJoined (inputs : List InputFields) : Type 0 where
  pub class : ClassFields
  pub first : class_of_first inputs ≡ Some class
  pub alike : AreInputsOfClass class inputs
  pub few : length inputs ≤ 64
  pub frames : frames_together inputs ≤ most_frames

-- the frames of an input that are written, in a file with this content
abbrev pub part_in : Contents → InputFields → FilePart
part_in files i = record {
  file = unwrap_or (files i.name) [];
  survey = i.survey;
  from = i.from;
  to = length i.survey.frames;
}

-- the content of each name; nothing where the contents of the folder aren't known
abbrev pub told_contents : Files → Contents
told_contents (Told files) = files
told_contents (Untold touched) = λ name. None

-- these inputs as parts, with the contents that the folder has
abbrev pub parts_of : Files → List InputFields → List FilePart
parts_of files inputs = map (part_in (told_contents files)) inputs
