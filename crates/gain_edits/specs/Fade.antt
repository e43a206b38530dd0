-- The fade command: by how many steps a sheet moves each frame, what is made of a file, and when it
-- is refused.
use Rattle.std.specs.List.{enumerate_from}
use Rattle.std.specs.Prelude.{Bool, Err, false, length, List, map, None, Ok, Option, Result, true}
use Rattle.std.specs.Prelude.{unwrap_or, ℕ, [], ◌||◌, ◌∷◌}
use Rattle.commands.specs.{Command.Command, Refusing.{refusal_or, then_made}}
use Rattle.commands.specs.Sheet.{sheet_in, sheet_refuses}
use Rattle.commands.specs.SingleOutput.{input_result, most_frames, one_command, Task}
use Rattle.commands.specs.declared.fault.EditFault.{EditFault, TheVariants.{Memory, Refused}}
use Rattle.commands.specs.declared.fault.Refusal.{Refusal}
use Rattle.commands.specs.declared.fault.Refusal.TheVariants.{Curve, CurveNotRising, GainRange}
use Rattle.fade_plan.specs.{Curves.{curve_of, CurvePoint}, Sheets.{envelope_of, EnvelopePoint}}
use Rattle.fade_plan.specs.declared.envelope_fault.EnvelopeFault.{EnvelopeFault}
use Rattle.fade_plan.specs.declared.envelope_fault.EnvelopeFault.TheVariants.{Memory as NoRoom}
use Rattle.gain_edits.specs.{Change.{change_making, Changing}, GainRange.range_fault}
use Rattle.moved_gains.specs.{Change.FileChange, Course.{course_steps, steps_at_offset}}
use Rattle.moved_gains.specs.Streams.{moved_stream_frame, stream_of}
use Rattle.moved_gains.specs.declared.course.Course.TheVariants.{Along}
use Rattle.requests.specs.declared.shift.Steps.{Steps}
use Rattle.sync_survey.specs.{Faults.SurveyFields, MainData.StreamFrame, Survey.survey_of}
use Rattle.sync_survey.specs.declared.survey_fault.SurveyFault.{SurveyFault}

-- ---- the curve

-- the points of a sheet, or its fault
abbrev pub points_result : Result (List EnvelopePoint) EnvelopeFault
    → Result (List EnvelopePoint) EditFault
points_result (Ok points) = Ok points
points_result (Err NoRoom) = Err Memory
points_result (Err fault) = Err (Refused (Curve fault))

-- the points that the bytes of a sheet list, or their fault
abbrev pub points_in : List ℕ → Result (List EnvelopePoint) EditFault
points_in sheet = points_result (envelope_of sheet)

-- the points at their frames, or the line that doesn't rise
abbrev pub curve_result : Result (List CurvePoint) ℕ → Result (List CurvePoint) EditFault
curve_result (Ok curve) = Ok curve
curve_result (Err line) = Err (Refused (CurveNotRising line))

-- the curve of these points on a file with this survey
abbrev pub points_curve : SurveyFields → List EnvelopePoint → Result (List CurvePoint) EditFault
points_curve s points = curve_result (curve_of s.class (length s.frames) points)

-- the curve that the bytes of a sheet give for a file with this survey; refused if the sheet has a
-- fault, and then if a point doesn't rise
abbrev pub sheet_curve : SurveyFields → List ℕ → Result (List CurvePoint) EditFault
sheet_curve s sheet = then_made (points_in sheet) (points_curve s)

-- ---- the change

-- each frame moves by the steps of the curve at its number, and no tag changes; refused if a gain
-- would leave the range
abbrev pub steps_change : (ℕ → Steps) → SurveyFields → Result FileChange EditFault
steps_change steps s =
    refusal_or (range_fault steps s.frames) (record { steps = steps; tag = None })

-- the change of a file along this curve, or the other way
abbrev pub curve_change : Bool → SurveyFields → List CurvePoint → Result FileChange EditFault
curve_change back s curve = steps_change (steps_at_offset (Along curve back) s.frames) s

-- what the bytes of a sheet change in a file with this survey
unfoldable pub sheet_change : List ℕ → Bool → SurveyFields → Result FileChange EditFault
sheet_change sheet back s = then_made (sheet_curve s sheet) (curve_change back s)

-- what a sheet changes; refused if the sheet isn't there or is too large
abbrev pub input_sheet_change : Option (List ℕ) → Bool → SurveyFields → Result FileChange EditFault
input_sheet_change sheet back s = then_made (sheet_in sheet) (λ bytes. sheet_change bytes back s)

-- what a fade changes, given the sheet, if it is there
abbrev pub fade_change : Option (List ℕ) → Bool → Changing
fade_change sheet back file s = input_sheet_change sheet back s

-- ---- the stream

-- frame i of a stream with its gains moved by the steps of number i
abbrev pub moved_frames : (ℕ → Steps) → List StreamFrame → List StreamFrame
moved_frames steps frames =
    map (λ (p : ℕ × StreamFrame). moved_stream_frame (steps p.0) p.1) (enumerate_from 0 frames)

-- a stream with its gains moved along the curve; unchanged if there is none
abbrev pub curve_stream : Bool → List StreamFrame → Result (List CurvePoint) EditFault
    → List StreamFrame
curve_stream back frames (Ok curve) = moved_frames (course_steps (Along curve back)) frames
curve_stream back frames (Err fault) = frames

-- the faded stream of a file with this survey; unchanged if the file has a fault
abbrev pub surveyed_fade_stream : Option (List ℕ) → Bool → List StreamFrame
    → Result SurveyFields SurveyFault → List StreamFrame
surveyed_fade_stream sheet back frames (Ok s) =
    curve_stream back frames (then_made (sheet_in sheet) (sheet_curve s))
surveyed_fade_stream sheet back frames (Err fault) = frames

-- the stream of a file with the gains of each frame moved by the steps of the curve at its number
abbrev pub faded_stream : Option (List ℕ) → Bool → List ℕ → List StreamFrame
faded_stream sheet back file =
    surveyed_fade_stream sheet back (stream_of file) (survey_of file most_frames)

-- ---- the command

-- the fault is one of the sheet's bytes
abbrev pub is_envelope_fault : EnvelopeFault → Bool
is_envelope_fault NoRoom = false
is_envelope_fault _ = true

-- the refusals that the bytes of the sheet and the gains may cause
abbrev pub choice_refuses : Refusal → Bool
choice_refuses (GainRange offset granule channel gain) = true
choice_refuses (Curve fault) = is_envelope_fault fault
choice_refuses (CurveNotRising line) = true
choice_refuses _ = false

-- the refusals that a fade may return
abbrev pub fade_refuses : Refusal → Bool
fade_refuses refusal = choice_refuses refusal || sheet_refuses refusal

-- the sheet is the second input, and is read once the first is without fault
abbrev pub fade_task : List ℕ → Bool → List ℕ → Task
fade_task sheet back input = record {
  source = input;
  inputs = input ∷ sheet ∷ [];
  sources = input ∷ [];
  makes = λ files. input_result (change_making (fade_change (files sheet) back)) (files input);
  stream = λ files. faded_stream (files sheet) back (unwrap_or (files input) []);
  refuses = fade_refuses;
}

-- the output is the input with each frame's gains moved by its steps, and so is its stream
abbrev pub fade_command : List ℕ → Bool → List ℕ → List ℕ → Command
fade_command sheet back input output = one_command (fade_task sheet back input) output
