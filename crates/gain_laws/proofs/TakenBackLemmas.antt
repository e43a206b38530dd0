-- A fade the other way with the same sheet undoes a fade: all bytes of the file come back, except
-- the junk.
use Rattle.std.proofs.Common.{ap, ap₂, Bool, cond, drop, Err, false, length, List, map, None, not}
use Rattle.std.proofs.Common.{Ok, Option, refl, Result, Some, subst, suc, sym, take}
use Rattle.std.proofs.Common.{take-append-drop, true, ℕ, ℤ, [], ◌++◌, ◌-◌, ◌||◌, ◌∙◌, ◌∷◌, ◌≡◌, ◌≢◌}
use Rattle.std.proofs.{Math.IntN.{+ℤ_invl, +ℤ_invr}, lemmas.{Bool.false≢true, List.length-map}}
use Rattle.std.proofs.lemmas.{Option.slice_get-map, Slice.Eq.bytes_eq-Decides}
use Rattle.std.specs.Prelude.{bytes_eq, option_map, slice_get}
use Rattle.bit_fields.specs.Bits.{AreBytes}
use Rattle.commands.proofs.{InputLemmas.made_parts, MakeLemmas.made-same, RefusingLemmas.then_ok}
use Rattle.commands.specs.{Command.{Made, written_files}, Refusing.{refusal_or, then_made}}
use Rattle.commands.specs.Sheet.{sheet_in}
use Rattle.commands.specs.SingleOutput.{clash_or, command_result, input_result, most_frames}
use Rattle.commands.specs.{SingleOutput.task_result, declared.fault.EditFault.EditFault}
use Rattle.commands.specs.declared.fault.Refusal.{Refusal}
use Rattle.fade_plan.specs.Curves.{curve_of, CurvePoint, steps_at, steps_back}
use Rattle.frame_header.specs.Fields.{ClassFields}
use Rattle.gain_edits.proofs.FadeProperLemmas.{faded-parts}
use Rattle.gain_edits.proofs.ProperLemmas.{file_with_change-ok, made_of}
use Rattle.gain_edits.specs.Change.{change_making, change_result}
use Rattle.gain_edits.specs.Fade.{curve_change, curve_result, fade_change, fade_command, fade_task}
use Rattle.gain_edits.specs.Fade.{input_sheet_change, points_in, sheet_change, sheet_curve}
use Rattle.gain_edits.specs.GainRange.{range_fault}
use Rattle.gain_laws.proofs.MovedAgainLemmas.{AllTogether, stood}
use Rattle.gain_laws.proofs.OppositeStepLemmas.{bytes_again, edited_file-still, frames, new_survey}
use Rattle.gain_laws.proofs.OppositeStepLemmas.{plain-file_with_change, still_holds}
use Rattle.gain_laws.proofs.RangeAgainLemmas.{AllOpposite, AreOpposite, range_back, still}
use Rattle.gain_laws.specs.TakenBack.{FadeGivesBack, FadeIsTakenBack}
use Rattle.moved_gains.proofs.CourseLemmas.{survey_numbered}
use Rattle.moved_gains.proofs.EditedSurveyLemmas.{survey_fields-edited_file}
use Rattle.moved_gains.specs.Change.{file_with_change, FileChange}
use Rattle.moved_gains.specs.Course.{constant_steps, course_steps, equal_steps, number_at}
use Rattle.moved_gains.specs.{Course.steps_at_offset, Edited.edited_file}
use Rattle.moved_gains.specs.Streams.{edited_survey, file_without_junk, junk_length}
use Rattle.moved_gains.specs.declared.course.Course.TheVariants.{Along}
use Rattle.outside.proofs.FilesLemmas.{bytes_eq_other, with_file_here, with_file_other}
use Rattle.outside.specs.Files.{Contents, with_file}
use Rattle.requests.specs.declared.shift.Steps.{Steps}
use Rattle.sync_survey.proofs.SurveyedFileLemmas.{survey_of-parts}
use Rattle.sync_survey.specs.{Faults.{HoldsStream, stream_of, survey_fields, SurveyFields}, Row.Row}
use Rattle.sync_survey.specs.Survey.{survey_of}

-- ---- the steps

equal_steps-opposite : (back : Bool) (steps : ℤ)
    → AreOpposite (equal_steps (steps_back back steps)) (equal_steps (steps_back (not back) steps))
equal_steps-opposite true steps =
    record { wraps = refl; left = +ℤ_invl steps; right = +ℤ_invl steps }
equal_steps-opposite false steps =
    record { wraps = refl; left = +ℤ_invr steps; right = +ℤ_invr steps }

each_opposite : (one two : ℕ → Steps) (to : ℕ → ℕ) (rows : List Row) → ((i : ℕ) (row : Row)
    → slice_get rows i ≡ Some row → AreOpposite (one row.offset) (two (to row.offset)))
    → AllOpposite one two to rows
each_opposite one two to [] each = tt
each_opposite one two to (row ∷ rows) each =
    (each 0 row refl, each_opposite one two to rows (λ i r is. each (suc i) r is))

-- opposite steps together are no step
opposite_together : (one two : ℕ → Steps) (to : ℕ → ℕ) (rows : List Row)
    → AllOpposite one two to rows → AllTogether one two (constant_steps still) to rows
opposite_together one two to [] opposite = tt
opposite_together one two to (row ∷ rows) opposite = (
  record { left = sym opposite.0.left; right = sym opposite.0.right },
  opposite_together one two to rows opposite.1,
)

-- ---- the change

-- a sheet whose curve is known, and along which no gain leaves the range, isn't refused
fade-ok : (sheet : Option (List ℕ)) (back : Bool) (s : SurveyFields) {curve : List CurvePoint}
    → then_made (sheet_in sheet) (sheet_curve s) ≡ Ok curve
    → range_fault (steps_at_offset (Along curve back) s.frames) s.frames ≡ None
    → input_sheet_change sheet back s
    ≡ Ok (record { steps = steps_at_offset (Along curve back) s.frames; tag = None })
unfolding sheet_change
fade-ok sheet back s {curve} is free =
    let read = then_ok is in
    ap (λ (r : Result (List ℕ) EditFault). then_made r (λ bytes. sheet_change bytes back s)) read.1
    ∙ ap (λ (r : Result (List CurvePoint) EditFault). then_made r (curve_change back s)) read.2
    ∙ ap (λ (o : Option Refusal). refusal_or o
    (record { steps = steps_at_offset (Along curve back) s.frames; tag = None })) free

-- ---- the file back

module _ (curve : List CurvePoint) (back : Bool) (file : List ℕ) {s : SurveyFields}
    (are : AreBytes file) (short : survey_of file most_frames ≡ Ok s) where
  abbrev one : ℕ → Steps
  one = steps_at_offset (Along curve back) s.frames

  abbrev moved : List ℕ
  moved = edited_file one file s

  abbrev m : SurveyFields
  m = edited_survey one s

  abbrev two : ℕ → Steps
  two = steps_at_offset (Along curve (not back)) m.frames

  -- where the content at this offset of the file is in the faded file
  abbrev nearer : ℕ → ℕ
  nearer x = x - junk_length s

  is : survey_fields file most_frames ≡ Ok s
  is = (survey_of-parts file most_frames short).1

  moved_frames : m.frames ≡ map (stood nearer one) s.frames
  unfolding edited_survey
  moved_frames = refl

  moved_class : m.class ≡ s.class
  unfolding edited_survey
  moved_class = refl

  -- each frame has the same number in the faded file
  moved_number : {i : ℕ} {row : Row} → slice_get s.frames i ≡ Some row
      → number_at m.frames (nearer row.offset) ≡ i
  moved_number {i} {row} there =
      survey_numbered moved most_frames
      (survey_fields-edited_file one file most_frames are is) i
      (stood nearer one row)
      (ap (λ (l : List Row). slice_get l i) moved_frames
      ∙ slice_get-map (stood nearer one) s.frames i ∙ ap (option_map (stood nearer one)) there)

  opposite_there : (i : ℕ) {row : Row} → slice_get s.frames i ≡ Some row
      → AreOpposite (one row.offset) (two (nearer row.offset))
  opposite_there i {row} there =
      let here : number_at s.frames row.offset ≡ i =
      survey_numbered file most_frames is i row there in
      subst (λ (n : ℕ). AreOpposite (one row.offset) (course_steps (Along curve (not back)) n))
      (here ∙ sym (moved_number there))
      (equal_steps-opposite back (steps_at curve (number_at s.frames row.offset)))

  opposites : AllOpposite one two nearer s.frames
  opposites = each_opposite one two nearer s.frames opposite_there

  sum : AllTogether one two (constant_steps still) nearer s.frames
  sum = opposite_together one two nearer s.frames opposites

  -- the sheet gives the same curve for the faded file
  same_curve : (bytes : List ℕ) → sheet_curve m bytes ≡ sheet_curve s bytes
  same_curve bytes =
      ap₂ (λ (class : ClassFields) (count : ℕ). then_made (points_in bytes)
      (λ points. curve_result (curve_of class count points))) moved_class
      (ap length moved_frames ∙ length-map s.frames (stood nearer one))

  -- faded the other way, the file is the first one without its junk
  pub faded_back : (sheet : Option (List ℕ)) → then_made (sheet_in sheet) (sheet_curve s) ≡ Ok curve
      → range_fault one s.frames ≡ None
      → change_result (fade_change sheet (not back)) moved ≡ Ok (file_without_junk s file)
  faded_back sheet by free =
      let range : range_fault two m.frames ≡ None =
      ap (range_fault two) moved_frames ∙ range_back one two file nearer s.frames opposites
      (frames one two file sum are short) free in
      file_with_change-ok (fade_change sheet (not back))
      (new_survey one two file sum are short)
      (fade-ok sheet (not back) m
      (ap (then_made (sheet_in sheet)) (λ i bytes. same_curve bytes i) ∙ by) range)
      ∙ ap Ok (plain-file_with_change two moved m ∙ bytes_again one two file sum are short)

-- a fade and the fade the other way with the same sheet give back all bytes except the junk
pub back_again : FadeGivesBack
back_again sheet back file new s are short e =
    let is = (survey_of-parts file most_frames {s = s} short).1 in
    let made = made_of {of = fade_change sheet back} {file = file} {new = new} {s = s} short e in
    let parts =
    faded-parts {sheet = sheet} {back = back} {s = s} {change = made.change} made.made in
    let steps : ℕ → Steps = steps_at_offset (Along parts.curve back) s.frames in
    let there : edited_file steps file s ≡ new = sym (plain-file_with_change steps file s)
    ∙ ap (λ (c : FileChange). file_with_change c file s) parts.made ∙ made.bytes in
    let again : change_result (fade_change sheet (not back)) new ≡ Ok (file_without_junk s file) =
    ap (change_result (fade_change sheet (not back))) (sym there)
    ∙ faded_back parts.curve back file are short sheet parts.is parts.free in
    let kept : file_with_change (record { steps = constant_steps still; tag = None }) file s
    ≡ file_without_junk s file =
    plain-file_with_change (constant_steps still) file s
    ∙ edited_file-still still (refl, refl) file most_frames {s = s} are is in
    record {
      made = again;
      same = λ clean. again ∙ ap Ok
          (ap (λ n. take s.junk file ++ drop n file) (sym clean) ∙ take-append-drop s.junk file);
      stream = subst (λ (l : List ℕ). HoldsStream l (stream_of file)) kept
          (still_holds still (refl, refl) None tt file most_frames {s = s} are is);
    }

-- ---- the command

-- a command with two inputs that was done made this file, and the second input isn't its output
record IsMadeApart (apart : Bool) (output : List ℕ) (r : Result (List ℕ) EditFault)
    (made : Made) : Type 0 where
  pub other : apart ≡ false
  pub bytes : List ℕ
  pub makes : r ≡ Ok bytes
  pub is : record { outputs = record { name = output; bytes = bytes } ∷ []; text = [] } ≡ made

made_apart : (first second : Bool) {output : List ℕ} (r : Result (List ℕ) EditFault) {made : Made}
    → command_result output (clash_or (cond (first || false) (Some 0)
    (cond (second || false) (Some 1) None)) r) ≡ Ok made → IsMadeApart second output r made
made_apart true second r e = absurd cc
made_apart false true r e = absurd cc
made_apart false false (Err fault) e = absurd cc
made_apart false false (Ok bytes) {made} e =
    record { other = refl; bytes = bytes; makes = refl; is = made-same e }

module _ (sheet input output : List ℕ) (back : Bool) (files : Contents) where
  done_apart : {made : Made} → (fade_command sheet back input output).makes files ≡ Ok made
      → IsMadeApart (bytes_eq sheet output) output ((fade_task sheet back input).makes files) made
  unfolding task_result
  done_apart {made} e = made_apart (bytes_eq input output) (bytes_eq sheet output)
      ((fade_task sheet back input).makes files) e

  makes_apart : output ≢ input → output ≢ sheet → (fade_command sheet back input output).makes files
      ≡ command_result output ((fade_task sheet back input).makes files)
  unfolding task_result
  makes_apart first second =
      ap₂ (λ (a b : Bool). command_result output (clash_or (cond (a || false) (Some 0)
      (cond (b || false) (Some 1) None)) ((fade_task sheet back input).makes files)))
      (bytes_eq_other first) (bytes_eq_other second)

-- the two commands give back all bytes except the junk
pub command_back : FadeIsTakenBack
command_back sheet input output last back files file made held are e first second =
    let done = done_apart sheet input output back files e in
    let of_file : change_result (fade_change (files sheet) back) file ≡ Ok done.bytes =
    sym (ap (input_result (change_making (fade_change (files sheet) back))) held) ∙ done.makes in
    let parts =
    made_parts (change_making (fade_change (files sheet) back)) of_file in
    let again = back_again (files sheet) back file done.bytes parts.0 are parts.1 of_file in
    let new = with_file files output done.bytes in
    let new_is : new ≡ written_files made.outputs files =
    ap (λ (m : Made). written_files m.outputs files) done.is in
    let apart : sheet ≢ output =
    λ same. false≢true (sym done.other ∙ (bytes_eq-Decides sheet output).1 same) in
    let makes : (fade_command sheet (not back) output last).makes (written_files made.outputs files)
    ≡ command_result last (change_result (fade_change (files sheet) (not back)) done.bytes) =
    ap (fade_command sheet (not back) output last).makes (sym new_is)
    ∙ makes_apart sheet output last (not back) new first second
    ∙ ap₂ (λ (o p : Option (List ℕ)). command_result last
    (input_result (change_making (fade_change o (not back)))
    p)) (with_file_other files done.bytes apart)
    (with_file_here files output done.bytes) in
    record {
      survey = parts.0;
      well_formed = parts.1;
      made = makes ∙ ap (command_result last) again.made;
      same = λ clean. makes ∙ ap (command_result last) (again.same clean);
      stream = again.stream;
    }
