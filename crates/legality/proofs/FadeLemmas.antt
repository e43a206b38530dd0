-- A fade: its sheet, and the curve of its points.
use Rattle.std.proofs.Common.{ap, Bool, cond, Err, length, List, map, None, Ok, Option, refl}
use Rattle.std.proofs.Common.{Result, Some, subst, suc, sym, ℕ, [], ◌<◌, ◌∙◌, ◌∷◌, ◌≡◌}
use Rattle.std.proofs.lemmas.Bool.{lt-ltb, ltb-true}
use Rattle.command_table.specs.Choices.{CanAllMove, IsLegalFade}
use Rattle.command_table.specs.Inputs.{FileInput, HoldsOfEachNext}
use Rattle.commands.proofs.{FoundSheetLemmas.{is-sheet, sheet-is}, RefusingLemmas.then_ok}
use Rattle.commands.specs.{Refusing.{refusal_or, then_made}, Sheet.sheet_in}
use Rattle.commands.specs.{SingleOutput.most_frames, declared.fault.EditFault.EditFault}
use Rattle.commands.specs.declared.fault.Refusal.{Refusal}
use Rattle.fade_plan.proofs.CurveLemmas.{made_of, none_of}
use Rattle.fade_plan.specs.Curves.{curve_of, curve_point, CurvePoint, line_not_rising}
use Rattle.fade_plan.specs.Curves.{line_or_curve, point_frame, steps_at, steps_back}
use Rattle.fade_plan.specs.Sheets.{envelope_of, EnvelopePoint}
use Rattle.fade_plan.specs.declared.envelope_fault.EnvelopeFault.{EnvelopeFault}
use Rattle.fade_plan.specs.declared.envelope_fault.EnvelopeFault.TheVariants.{Line}
use Rattle.fade_plan.specs.declared.envelope_fault.EnvelopeFault.TheVariants.{Memory as NoRoom}
use Rattle.fade_plan.specs.declared.envelope_fault.EnvelopeFault.TheVariants.{NoPoints}
use Rattle.frame_header.specs.Fields.{ClassFields}
use Rattle.gain_edits.proofs.FadeProperLemmas.{faded-parts}
use Rattle.gain_edits.specs.Fade.{curve_change, curve_result, input_sheet_change, points_curve}
use Rattle.gain_edits.specs.Fade.{points_result, sheet_change, sheet_curve}
use Rattle.legality.proofs.{GainLemmas.{Agree, free-moves, moves-free}, InputLemmas.next-cons}
use Rattle.moved_gains.{proofs.CourseLemmas.survey_numbered, specs.Change.FileChange}
use Rattle.moved_gains.specs.Course.{course_steps, equal_steps, steps_at_offset}
use Rattle.moved_gains.specs.declared.course.Course.TheVariants.{Along}
use Rattle.outside.specs.Files.{Contents}
use Rattle.sync_survey.{proofs.SurveyedFileLemmas.survey_of-parts, specs.Faults.SurveyFields}
use Rattle.sync_survey.specs.Survey.{survey_of}

-- ---- the sheet

points-ok : (r : Result (List EnvelopePoint) EnvelopeFault) {points : List EnvelopePoint}
    → points_result r ≡ Ok points → r ≡ Ok points
points-ok (Ok found) e = cc
points-ok (Err (Line line)) e = absurd cc
points-ok (Err NoPoints) e = absurd cc
points-ok (Err NoRoom) e = absurd cc

curve-ok : (r : Result (List CurvePoint) ℕ) {curve : List CurvePoint} → curve_result r ≡ Ok curve
    → r ≡ Ok curve
curve-ok (Ok found) e = cc
curve-ok (Err line) e = absurd cc

-- ---- points that rise

module _ (class : ClassFields) (frames : ℕ) where
  abbrev Rise : EnvelopePoint → EnvelopePoint → Type 0
  Rise p q = point_frame class frames p < point_frame class frames q

  rises : (points : List EnvelopePoint) → line_not_rising class frames points ≡ None
      → HoldsOfEachNext points Rise
  unfolding line_not_rising
  rises [] none = λ i p q is next. absurd cc
  rises (x ∷ []) none = λ i p q is next. absurd cc
  rises (x ∷ y ∷ more) none =
      let parts = none_of y.line none in
      next-cons Rise more
      (ltb-true (point_frame class frames x) (point_frame class frames y) parts.0)
      (rises (y ∷ more) parts.1)

  rise-none : (points : List EnvelopePoint) → HoldsOfEachNext points Rise
      → line_not_rising class frames points ≡ None
  unfolding line_not_rising
  rise-none [] rising = refl
  rise-none (x ∷ []) rising = refl
  rise-none (x ∷ y ∷ more) rising =
      ap (λ b. cond b (line_not_rising class frames (y ∷ more)) (Some y.line))
      (lt-ltb (point_frame class frames x) (point_frame class frames y) (rising 0 x y refl refl))
      ∙ rise-none (y ∷ more) (λ i p q is next. rising (suc i) p q is next)

  -- a curve that isn't refused has points that rise
  pub curve-rises : (points : List EnvelopePoint) {curve : List CurvePoint}
      → curve_of class frames points ≡ Ok curve
      → HoldsOfEachNext points Rise × (map (curve_point class frames) points ≡ curve)
  unfolding curve_of
  curve-rises points {curve} e =
      let parts =
      made_of e in
      (rises points parts.0, parts.1)

  -- points that rise have a curve
  pub rising-curve : (points : List EnvelopePoint) → HoldsOfEachNext points Rise
      → curve_of class frames points ≡ Ok (map (curve_point class frames) points)
  unfolding curve_of
  rising-curve points rising =
      ap (λ o. line_or_curve o (map (curve_point class frames) points)) (rise-none points rising)

-- ---- the fade

module _ (sheet : List ℕ) (back : Bool) (files : Contents) (file : List ℕ) {s : SurveyFields}
    (surveyed : survey_of file most_frames ≡ Ok s) where
  abbrev input : FileInput
  input = record { bytes = file; survey = s }

  along : (curve : List CurvePoint) → Agree (steps_at_offset (Along curve back) s.frames)
      (λ i. equal_steps (steps_back back (steps_at curve i))) s.frames
  along curve = λ i row is. ap (course_steps (Along curve back))
      (survey_numbered file most_frames (survey_of-parts file most_frames surveyed).1 i row is)

  -- a fade that isn't refused is legal
  pub fade-legal : (change : FileChange) → input_sheet_change (files sheet) back s ≡ Ok change
      → IsLegalFade sheet back files input
  fade-legal change e =
      let parts = faded-parts {sheet = files sheet} {back = back} {s = s} {change = change} e in
      let one =
      then_ok {r = sheet_in (files sheet)} {make = sheet_curve s} {b = parts.curve} parts.is in
      let is = sheet-is {o = files sheet} {bytes = one.0} one.1 in
      let two = then_ok {r = points_result (envelope_of one.0)} {make = points_curve s} {b =
      parts.curve} one.2 in
      let rises = curve-rises s.class (length s.frames)
      two.0 {curve = parts.curve} (curve-ok (curve_of s.class (length s.frames) two.0)
      {curve = parts.curve} two.2) in
      record {
        bytes = one.0;
        there = is.there;
        small = is.small;
        points = two.0;
        read = points-ok (envelope_of one.0) {points = two.0} two.1;
        rising = rises.0;
        gains = subst (λ (curve : List CurvePoint).
            CanAllMove (λ i. equal_steps (steps_back back (steps_at curve i))) s) (sym rises.1)
            (free-moves (steps_at_offset (Along parts.curve back) s.frames)
            {g = λ i. equal_steps (steps_back back
            (steps_at parts.curve i))} s.frames (along parts.curve) parts.free);
      }

  -- a legal fade isn't refused
  pub legal-fade : IsLegalFade sheet back files input
      → (change : FileChange) × (input_sheet_change (files sheet) back s ≡ Ok change)
  unfolding sheet_change
  legal-fade legal =
      let curve = map (curve_point s.class (length s.frames)) legal.points in
      let steps = steps_at_offset (Along curve back) s.frames in
      let change : FileChange = record { steps = steps; tag = None } in (
        change,
        ap (λ (r : Result (List ℕ) EditFault). then_made r (λ bytes. sheet_change bytes back s))
            (is-sheet (record { there = legal.there; small = legal.small }))
            ∙ ap (λ (r : Result (List EnvelopePoint) EnvelopeFault).
            then_made (then_made (points_result r) (points_curve s))
            (curve_change back s)) legal.read
            ∙ ap (λ (r : Result (List CurvePoint) ℕ). then_made (curve_result r)
            (curve_change back s))
            (rising-curve s.class (length s.frames) legal.points legal.rising)
            ∙ ap (λ (o : Option Refusal). refusal_or o change)
            (moves-free steps s.frames (along curve)
            legal.gains),
      )
