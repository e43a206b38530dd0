-- What the one body requires of the command: it refuses late, and what it makes holds the stream
-- with each frame's gains moved.
use Rattle.std.proofs.Common.{ap, ap₂, arith, Bool, length, List, map, None, Ok, Option, refl}
use Rattle.std.proofs.Common.{Result, Some, subst, suc, sym, zero-add, ℕ, [], ◌+◌, ◌∙◌, ◌∷◌, ◌≡◌}
use Rattle.std.specs.{List.enumerate_from, Prelude.{IfErr, IfSome, slice_get}}
use Rattle.bit_fields.specs.Bits.{AreBytes}
use Rattle.commands.proofs.InputLemmas.{file_proper, IsProperMaking}
use Rattle.commands.proofs.RefusingLemmas.{refusal_or-late, refusal_or-ok, then_late, then_ok}
use Rattle.commands.{proofs.SheetLemmas.sheet-late, specs.AfterCall.IsLateFault}
use Rattle.commands.specs.{Refusing.then_made, Sheet.sheet_in}
use Rattle.commands.specs.SingleOutput.{IsProperTask, most_frames}
use Rattle.fade_plan.specs.{Curves.CurvePoint, Sheets.EnvelopePoint}
use Rattle.fade_plan.specs.declared.envelope_fault.EnvelopeFault.{EnvelopeFault}
use Rattle.gain_edits.proofs.ProperLemmas.{changed-stream, changed_all, holds_moved, made_cases}
use Rattle.gain_edits.{proofs.ProperLemmas.stream_of-survey, specs.Change.change_making}
use Rattle.gain_edits.specs.Fade.{curve_result, fade_change, fade_refuses, fade_task, faded_stream}
use Rattle.gain_edits.specs.Fade.{input_sheet_change, moved_frames, points_result, sheet_change}
use Rattle.gain_edits.specs.{Fade.sheet_curve, GainRange.range_fault}
use Rattle.moved_gains.{proofs.CourseLemmas.survey_numbered, specs.Change.FileChange}
use Rattle.moved_gains.specs.Course.{AreRowsNumbered, course_steps, steps_at_offset}
use Rattle.moved_gains.specs.{Streams.{moved_stream_frame, moved_stream_of}, TagExtent.IsTagBytes}
use Rattle.moved_gains.specs.declared.course.Course.{Course, TheVariants.Along}
use Rattle.requests.specs.declared.shift.Steps.{Steps}
use Rattle.sync_survey.proofs.SurveyPartsLemmas.{survey_fields-allowed}
use Rattle.sync_survey.proofs.SurveyedFileLemmas.{survey_of-parts}
use Rattle.sync_survey.specs.Faults.{HoldsStream, stream_of, stream_of_survey, SurveyFields}
use Rattle.sync_survey.specs.MainData.{main_bytes, stream_frame, stream_frames, StreamFrame}
use Rattle.sync_survey.specs.{Row.Row, Survey.survey_of, declared.places.Head.Head}
use Rattle.sync_survey.specs.declared.survey_fault.SurveyFault.{SurveyFault}

-- ---- refusals come after memory was taken

points-late : (r : Result (List EnvelopePoint) EnvelopeFault) → IfErr (points_result r) IsLateFault
points-late r = grind arith

curve-late : (r : Result (List CurvePoint) ℕ) → IfErr (curve_result r) IsLateFault
curve-late r = grind arith

in-late : (bytes : List ℕ) (back : Bool) (s : SurveyFields)
    → IfErr (sheet_change bytes back s) IsLateFault
unfolding sheet_change
in-late bytes back s = grind (arith, then_late, points-late, curve-late, refusal_or-late)

-- the refusals of a fade are late
pub input_sheet_change-late : (sheet : Option (List ℕ)) (back : Bool) (s : SurveyFields)
    → IfErr (input_sheet_change sheet back s) IsLateFault
input_sheet_change-late sheet back s = grind (arith, then_late, sheet-late, in-late)

-- ---- the curve of what is made

-- the curve of the sheet, along which no gain leaves its range, and the change along it
pub record IsFaded (sheet : Option (List ℕ)) (back : Bool) (s : SurveyFields)
    (change : FileChange) : Type 0 where
  pub curve : List CurvePoint
  pub is : then_made (sheet_in sheet) (sheet_curve s) ≡ Ok curve
  pub free : range_fault (steps_at_offset (Along curve back) s.frames) s.frames ≡ None
  pub made : record { steps = steps_at_offset (Along curve back) s.frames; tag = None } ≡ change

-- a fade that isn't refused has these parts
pub faded-parts : {sheet : Option (List ℕ)} {back : Bool} {s : SurveyFields} {change : FileChange}
    → input_sheet_change sheet back s ≡ Ok change → IsFaded sheet back s change
unfolding sheet_change
faded-parts {sheet} {back} {s} {change} e =
    let one = then_ok e in
    let two = then_ok one.2 in
    let three =
    refusal_or-ok
    two.2 in
    record {
      curve = two.0;
      is = ap (λ r. then_made r (sheet_curve s)) one.1 ∙ two.1;
      free = three.0;
      made = grind arith;
    }

-- ---- the stream by the numbers of the frames

by_number : (g f : ℕ → Steps) (main : List ℕ) (o : Option Head) (rows : List Row) (n : ℕ)
    (more : List Row)
    → ((i : ℕ) (row : Row) → slice_get more i ≡ Some row → g row.offset ≡ f (n + i))
    → map (λ (p : ℕ × Row). moved_stream_frame (g p.1.offset) (stream_frame main o rows p.0 p.1))
    (enumerate_from n more)
    ≡ map (λ (p : ℕ × StreamFrame). moved_stream_frame (f p.0) p.1) (enumerate_from n
    (map (λ (p : ℕ × Row). stream_frame main o rows p.0 p.1) (enumerate_from n more)))
by_number g f main o rows n [] agree = refl
by_number g f main o rows n (row ∷ more) agree =
    let none : n + 0 ≡ n = omega arith in
    ap₂ (λ (x : Steps) (l : List StreamFrame). moved_stream_frame x (stream_frame main o rows n row)
    ∷ l) (agree 0 row refl ∙ ap f none)
    (by_number g f main o rows (n + 1) more (λ i r is. agree (suc i) r is ∙ ap f (omega arith)))

by_curve : (course : Course) (file : List ℕ) (s : SurveyFields) → AreRowsNumbered s.frames
    → moved_stream_of (steps_at_offset course s.frames) file s
    ≡ moved_frames (course_steps course) (stream_of_survey file s)
unfolding moved_stream_of stream_of_survey stream_frames
by_curve course file s numbered =
    by_number (steps_at_offset course s.frames) (course_steps course)
    (main_bytes file s.head s.frames) s.head s.frames 0
    s.frames (λ i row is. ap (course_steps course) (numbered i row is ∙ sym (zero-add i)))

same_survey : {s t : SurveyFields} {r : Result SurveyFields SurveyFault} → r ≡ Ok s → r ≡ Ok t
    → s ≡ t
same_survey e f = cc

module _ (sheet : Option (List ℕ)) (back : Bool) where
  fade_stream : (file : List ℕ) {s : SurveyFields} {new : List ℕ} → AreBytes file
      → survey_of file most_frames ≡ Ok s → change_making (fade_change sheet back) file s ≡ Ok new
      → HoldsStream new (faded_stream sheet back file)
  fade_stream file {s} {new} all is e =
      let c =
      made_cases (fade_change sheet back)
      {file = file} {new = new} {s = s} {r = input_sheet_change sheet back s} refl e in
      let parts = faded-parts {sheet = sheet} {back = back} {s = s} {change = c.change} c.made in
      let course = Along parts.curve back in
      let none : IfSome c.change.tag IsTagBytes = grind arith in
      let moved = changed-stream {of = fade_change sheet back} {file = file} {new = new} {s = s} c
      all is none in
      let full =
      survey_fields-allowed file most_frames {other = length file + 1} {s = s} (omega arith)
      (survey_of-parts file most_frames {s = s} is).1 in
      let same : moved.before.0 ≡ s = grind (arith, same_survey) in
      let steps : c.change.steps ≡ steps_at_offset course s.frames = grind arith in
      let numbers =
      survey_numbered file most_frames {s = s} (survey_of-parts file most_frames {s = s} is).1 in
      let stream : moved_stream_of c.change.steps file moved.before.0
      ≡ moved_frames (course_steps course) (stream_of file) =
      grind (arith, by_curve, stream_of-survey) in
      let along : faded_stream sheet back file
      ≡ moved_frames (course_steps course) (stream_of file) = grind (arith, is) in
      subst (HoldsStream new) (stream ∙ sym along)
      (holds_moved {steps = c.change.steps} {file = file} {new = new} moved)

  -- what a fade makes is proper
  pub fade_making : IsProperMaking (change_making (fade_change sheet back))
      (faded_stream sheet back)
  fade_making = record {
    late = grind (arith, changed_all, input_sheet_change-late);
    streams = fade_stream;
  }

-- the command is proper
pub fade_proper : (sheet : List ℕ) (back : Bool) (input : List ℕ)
    → IsProperTask (fade_task sheet back input)
fade_proper sheet back input = record {
  some = omega arith;
  first = refl;
  late =
      λ f bytes held few. (file_proper (fade_making (f sheet) back) fade_refuses input).late f bytes
      held few;
  streams = λ f bytes new held octets is.
      (file_proper (fade_making (f sheet) back) fade_refuses input).streams f bytes
      new held octets is;
}
