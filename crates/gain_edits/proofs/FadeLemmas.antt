-- What a sheet changes, and its faults as faults of the command.
use Rattle.std.proofs.Common.{ap, arith, Bool, Err, List, None, Ok, Option, refl, Result, Some}
use Rattle.std.proofs.Common.{subst, sym, true, ℕ, ◌∙◌, ◌≡◌}
use Rattle.std.specs.Prelude.{IfErr, IfSome, length, MatchResult, ◌⊎◌}
use Rattle.bit_fields.specs.Bits.{AreBytes}
use Rattle.commands.proofs.InputLemmas.{input_is_early, made-survey}
use Rattle.commands.proofs.NamedLemmas.{lost_name, missed_name, unread_name}
use Rattle.commands.proofs.{RefusingLemmas.{refusal_or-all, then_all}, SheetLemmas.sheet-all}
use Rattle.commands.proofs.WhyLemmas.{each_why, each_why_of}
use Rattle.commands.specs.AfterCall.{HasInputNumbers, IsEditRefusal, IsNotBefore, why_of}
use Rattle.commands.specs.Refusing.{refusal_or, then_made}
use Rattle.commands.specs.SingleOutput.{file_task, HasTaskNumbers, IsEarlyFault, IsInputFault}
use Rattle.commands.specs.SingleOutput.{IsMaking, Making, most_frames, TaskRefuses}
use Rattle.commands.specs.declared.fault.EditFault.{EditFault, TheVariants.{Input, Memory, Refused}}
use Rattle.commands.specs.declared.fault.Refusal.{Refusal}
use Rattle.fade_plan.specs.{Curves.{curve_of, CurvePoint}, Sheets.{envelope_of, EnvelopePoint}}
use Rattle.fade_plan.specs.declared.envelope_fault.EnvelopeFault.{EnvelopeFault}
use Rattle.gain_edits.proofs.{ProperLemmas.changed_all, RefusalLemmas.{IsSurveyedInput, range_may}}
use Rattle.gain_edits.specs.Change.{change_making, changed_or_fault}
use Rattle.gain_edits.specs.Fade.{choice_refuses, curve_change, curve_result, fade_change}
use Rattle.gain_edits.specs.Fade.{fade_refuses, fade_task, faded_stream, input_sheet_change}
use Rattle.gain_edits.specs.Fade.{points_curve, points_in, points_result, sheet_change, sheet_curve}
use Rattle.gain_edits.specs.{Fade.steps_change, GainRange.range_fault}
use Rattle.gain_edits.specs.Steps.{HasChangeNumbers, IsChangeFault}
use Rattle.moved_gains.specs.Change.{change_in, file_with_change, FileChange}
use Rattle.moved_gains.specs.{Course.steps_at_offset, declared.change.Change.Change}
use Rattle.moved_gains.specs.declared.course.Course.TheVariants.{Along}
use Rattle.outside.proofs.FilesLemmas.{there_holds}
use Rattle.outside.specs.Files.{Contents, Files, Holds, IfTold, IsFileThere, Told, Untold}
use Rattle.outside.specs.Seen.{Seen}
use Rattle.requests.specs.declared.shift.Steps.{Steps}
use Rattle.sync_survey.{proofs.SurveyedFileLemmas.survey_of-parts, specs.Faults.SurveyFields}
use Rattle.sync_survey.specs.Survey.{survey_of}
use Rattle.sync_survey.specs.declared.survey_fault.SurveyFault.TheVariants.{Absent, Read}

-- ---- the change

-- a gain that would leave its range refuses the fade
pub along_refused : (steps : ℕ → Steps) (s : SurveyFields) {refusal : Refusal} {fault : EditFault}
    → range_fault steps s.frames ≡ Some refusal → fault ≡ Refused refusal
    → IsEditRefusal choice_refuses fault × (steps_change steps s ≡ Err fault)
along_refused steps s {refusal} first is =
    let may : choice_refuses refusal ≡ true =
    subst (λ o. IfSome o (λ r. choice_refuses r ≡ true)) first
    (range_may choice_refuses (λ offset granule channel gain. refl) steps s.frames) in (
      subst (IsEditRefusal choice_refuses) (sym is) may,
      ap (λ (o : Option Refusal). refusal_or o (record { steps = steps; tag = None })) first
          ∙ ap (λ f. Err f) (sym is),
    )

-- a fault of the curve is a fault of the fade
pub curve_fault : (sheet : List ℕ) (back : Bool) (s : SurveyFields) {fault : EditFault}
    → (fault ≡ Memory) ⊎ (IsEditRefusal choice_refuses fault × (sheet_curve s sheet ≡ Err fault))
    → (fault ≡ Memory)
    ⊎ (IsEditRefusal choice_refuses fault × (sheet_change sheet back s ≡ Err fault))
unfolding sheet_change
curve_fault sheet back s h = grind arith

-- with a curve, the fade is the change along it
pub sheet_change-curve : (sheet : List ℕ) (back : Bool) (s : SurveyFields) {curve : List CurvePoint}
    → sheet_curve s sheet ≡ Ok curve → sheet_change sheet back s ≡ curve_change back s curve
unfolding sheet_change
sheet_change-curve sheet back s is = ap (λ r. then_made r (curve_change back s)) is

-- with a curve, the result of the fade is the result of the change along it
pub along_answer : (sheet : List ℕ) (back : Bool) (s : SurveyFields) {curve : List CurvePoint}
    → sheet_curve s sheet ≡ Ok curve → (r : Result Change EditFault)
    → MatchResult r (λ change. steps_change (steps_at_offset (Along curve back) s.frames) s
    ≡ Ok (change_in change s)) (λ fault. IsEditRefusal choice_refuses fault
    × (steps_change (steps_at_offset (Along curve back) s.frames) s ≡ Err fault))
    → MatchResult r (λ change. sheet_change sheet back s ≡ Ok (change_in change s)) (λ fault.
    (fault ≡ Memory)
    ⊎ (IsEditRefusal choice_refuses fault × (sheet_change sheet back s ≡ Err fault)))
along_answer sheet back s is r made = grind (arith, sheet_change-curve)

-- ---- no fault comes before the sheet is read

points_before : (r : Result (List EnvelopePoint) EnvelopeFault)
    → IfErr (points_result r) (IsNotBefore (Input 1 Read))
points_before r = grind arith

curve_before : (r : Result (List CurvePoint) ℕ)
    → IfErr (curve_result r) (IsNotBefore (Input 1 Read))
curve_before r = grind arith

range_before : (o : Option Refusal) → IfSome o (λ r. choice_refuses r ≡ true)
    → IfSome o (λ r. IsNotBefore (Input 1 Read) (Refused r))
range_before o may = grind arith

in_before : (bytes : List ℕ) (back : Bool) (s : SurveyFields)
    → IfErr (sheet_change bytes back s) (IsNotBefore (Input 1 Read))
unfolding sheet_change
in_before bytes back s =
    then_all (IsNotBefore (Input 1 Read)) (sheet_curve s bytes) (curve_change back s)
    (then_all (IsNotBefore (Input 1 Read)) (points_in bytes) (points_curve s) (points_before
    (envelope_of bytes)) (λ points. curve_before (curve_of s.class (length s.frames) points)))
    (λ curve. refusal_or-all (IsNotBefore (Input 1 Read)) _ _
    (range_before _ (range_may choice_refuses (λ offset granule channel gain. refl) _ s.frames)))

input_sheet_change-before : (sheet : Option (List ℕ)) (back : Bool) (s : SurveyFields)
    → IfErr (input_sheet_change sheet back s) (IsNotBefore (Input 1 Read))
input_sheet_change-before sheet back s = grind (arith, then_all, sheet-all, in_before)

-- ---- the faults as faults of the command

-- the numbers of a fault of the input are in the range of the fade's inputs
pub input_numbers : (sheet : List ℕ) (back : Bool) (input : List ℕ) (fault : EditFault)
    → HasInputNumbers fade_refuses fault → HasTaskNumbers (fade_task sheet back input) fault
input_numbers sheet back input fault h = grind arith

-- the numbers of a fault of the change are in the range of the fade's inputs
pub change_numbers : (sheet : List ℕ) (back : Bool) (input : List ℕ) (fault : EditFault)
    → HasChangeNumbers fault → HasTaskNumbers (fade_task sheet back input) fault
change_numbers sheet back input fault h = grind arith

module _ (sheet : List ℕ) (back : Bool) (input : List ℕ) where
  -- what the command makes of its input, with the sheet that these files hold
  abbrev pub making_in : Files → Making
  making_in (Untold touched) = change_making (fade_change None back)
  making_in (Told f) = change_making (fade_change (f sheet) back)

  refuses_same : (files : Files) (fault : EditFault)
      → TaskRefuses (file_task (making_in files) (faded_stream None back) fade_refuses input) files
      fault → TaskRefuses (fade_task sheet back input) files fault
  refuses_same files fault h = grind arith

  before_same : (files : Files) (P : EditFault → Type 0) → IfTold files (λ f.
      IfErr ((file_task (making_in files) (faded_stream None back) fade_refuses input).makes f) P)
      → IfTold files (λ f. IfErr ((fade_task sheet back input).makes f) P)
  before_same files P is = grind arith

  module _ (old new : Seen) (fault : EditFault) where
    -- a fault of the input is one met before the output is created
    pub input_early : IsInputFault (making_in old.files) input old new fault
        → IsEarlyFault (fade_task sheet back input) old new fault
    input_early h =
        grind (
          arith,
          each_why_of,
          input_is_early,
          refuses_same,
          missed_name,
          before_same,
          unread_name,
          lost_name,
        )

-- the input was surveyed
module _ (sheet : List ℕ) (back : Bool) where
  makes_by : (f : Contents) {input bytes : List ℕ} {s : SurveyFields} → f input ≡ Some bytes
      → survey_of bytes most_frames ≡ Ok s → (fade_task sheet back input).makes f
      ≡ changed_or_fault bytes s (input_sheet_change (f sheet) back s)
  makes_by f held is = grind (arith, made-survey)

  refuses_by : {input : List ℕ} {s : SurveyFields} {old : Seen} (fault : EditFault)
      → IsSurveyedInput input s old
      → IfTold old.files (λ f. input_sheet_change (f sheet) back s ≡ Err fault)
      → TaskRefuses (fade_task sheet back input) old.files fault
  refuses_by {input} {s} {old} fault source refused =
      at old.files source.there source.surveyed refused
    where
      at : (files : Files) → IsFileThere files input
          → ((bytes : List ℕ) → Holds files input bytes → survey_of bytes most_frames ≡ Ok s)
          → IfTold files (λ f. input_sheet_change (f sheet) back s ≡ Err fault)
          → TaskRefuses (fade_task sheet back input) files fault
      at (Untold touched) there is refused = tt
      at (Told f) there is refused =
          let held = there_holds f there in
          makes_by f held.1 (is held.0 held.1) ∙ ap (changed_or_fault held.0 s) refused

  -- no fault of the definition comes before the sheet that could not be read
  sheet_before : {input : List ℕ} {s : SurveyFields} {old : Seen} {fault : EditFault}
      → IsSurveyedInput input s old → fault ≡ Input 1 Read → IfTold old.files
      (λ f. IfErr ((fade_task sheet back input).makes f) (IsNotBefore fault))
  sheet_before {input} {s} {old} {fault} source unread =
      at old.files source.there source.surveyed
    where
      at : (files : Files) → IsFileThere files input
          → ((bytes : List ℕ) → Holds files input bytes → survey_of bytes most_frames ≡ Ok s)
          → IfTold files (λ f. IfErr ((fade_task sheet back input).makes f) (IsNotBefore fault))
      at (Untold touched) there is = tt
      at (Told f) there is =
          let held = there_holds f there in
          subst (λ e. IfErr ((fade_task sheet back input).makes f) (IsNotBefore e)) (sym unread)
          (subst (λ r. IfErr r (IsNotBefore (Input 1 Read)))
          (sym (makes_by f held.1 (is held.0 held.1))) (changed_all (IsNotBefore
          (Input 1 Read)) held.0 s (input_sheet_change (f sheet) back s)
          (input_sheet_change-before (f sheet) back s)))

  with_sheet : (s : SurveyFields) (files : Files) {r : Result FileChange EditFault}
      → IsFileThere files sheet
      → ((bytes : List ℕ) → Holds files sheet bytes → input_sheet_change (Some bytes) back s ≡ r)
      → IfTold files (λ f. input_sheet_change (f sheet) back s ≡ r)
  with_sheet s files there are = grind arith

  without_sheet : (s : SurveyFields) (files : Files) {fault : EditFault}
      → IfTold files (λ f. f sheet ≡ None) → fault ≡ Input 1 Absent
      → IfTold files (λ f. input_sheet_change (f sheet) back s ≡ Err fault)
  without_sheet s files missing is = grind arith

  -- a fault of the change is one met before the output is created
  pub change_early : {input : List ℕ} {s : SurveyFields} {old : Seen} (new : Seen)
      (fault : EditFault) → IsSurveyedInput input s old → IsChangeFault sheet back s old new fault
      → IsEarlyFault (fade_task sheet back input) old new fault
  change_early {input} {s} {old} new fault source h = each_why (why_of fault) h (record {
    rejected = λ r. record {
      defined = refuses_by fault source (with_sheet s old.files r.there r.bytes);
      stays = r.stays;
    };
    missing = λ m. record {
      defined = refuses_by fault source (without_sheet s old.files m.missing m.is);
      rose = missed_name (fade_task sheet back input).inputs refl m;
      files = m.files;
    };
    unread = λ u. record {
      before = sheet_before source u.is;
      rose = unread_name (fade_task sheet back input).inputs refl u;
      files = u.files;
    };
    shorter = λ l. record {
      ended = lost_name (fade_task sheet back input).inputs refl l;
      files = l.files;
    };
    unwritten = λ k w. absurd w;
    unsent = λ w. absurd w;
    no_memory = λ same. record {
      there = source.there;
      few = λ bytes holds. (survey_of-parts bytes most_frames (source.surveyed bytes holds)).0;
      stays = same;
    };
  })

  -- a fault of the change after the survey, which changed nothing, is such a fault
  pub change_early_behind : {input : List ℕ} {s : SurveyFields} {mid old : Seen} (new : Seen)
      (fault : EditFault) → IsSurveyedInput input s old → mid ≡ old
      → IsChangeFault sheet back s mid new fault
      → IsEarlyFault (fade_task sheet back input) old new fault
  change_early_behind {s = s} new fault source stays h = change_early new fault source
      (subst (λ (m : Seen). IsChangeFault sheet back s m new fault) stays h)

  -- a fade that isn't refused makes the faded file
  pub fade_makes : {input : List ℕ} {s : SurveyFields} {old : Seen} {change : FileChange}
      → IsSurveyedInput input s old
      → ((bytes : List ℕ) → Holds old.files input bytes → AreBytes bytes)
      → IsFileThere old.files sheet → ((bytes : List ℕ) → Holds old.files sheet bytes
      → input_sheet_change (Some bytes) back s ≡ Ok change)
      → IsMaking (fade_task sheet back input) (λ file. file_with_change change file s) old.files
  fade_makes {input} {s} {old} {change} source octets sheet_there are = record {
    there = source.there;
    makes = at old.files source.surveyed octets (with_sheet s old.files sheet_there are);
  }
    where
      at : (files : Files)
          → ((bytes : List ℕ) → Holds files input bytes → survey_of bytes most_frames ≡ Ok s)
          → ((bytes : List ℕ) → Holds files input bytes → AreBytes bytes)
          → IfTold files (λ f. input_sheet_change (f sheet) back s ≡ Ok change)
          → IfTold files (λ f. (bytes : List ℕ) → f input ≡ Some bytes → AreBytes bytes
          × ((fade_task sheet back input).makes f ≡ Ok (file_with_change change bytes s)))
      at (Untold touched) is octets made = tt
      at (Told f) is octets made = λ bytes holds. (
        octets bytes holds,
        makes_by f holds (is bytes holds) ∙ ap (changed_or_fault bytes s) made,
      )
