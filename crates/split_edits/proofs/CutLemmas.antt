-- What a file is cut into at positions, and at places of samples: no fault comes too early, and
-- what is laid holds its stream.
use Rattle.std.proofs.Common.{arith, Bool, cond, Err, length, List, None, Ok, Option, refl, Result}
use Rattle.std.{proofs.Common.{Some, ℕ, ◌≡◌}, specs.Prelude.{IfErr, IfSome, replicate}}
use Rattle.commands.proofs.RefusingLemmas.{refusal_or-all, then_all, then_ok}
use Rattle.commands.proofs.SheetLemmas.{sheet-all}
use Rattle.commands.specs.AfterCall.{IsEditRefusal, IsLateFault, IsNotBefore}
use Rattle.commands.specs.{SingleOutput.most_frames, declared.fault.EditFault.EditFault}
use Rattle.commands.specs.declared.fault.{EditFault.TheVariants.{Input, Refused}, Refusal.Refusal}
use Rattle.commands.specs.declared.fault.Refusal.TheVariants.{Range, Sheet, SheetTooLarge}
use Rattle.commands.specs.declared.fault.Refusal.TheVariants.{Span as NoSpan}
use Rattle.cue_sheet.specs.{Places.frame_at, declared.cue_fault.CueFault.CueFault}
use Rattle.cue_sheet.specs.declared.place.Place.{Place}
use Rattle.cut_edits.proofs.ChosenLemmas.{chosen-holds, with_right}
use Rattle.cut_edits.proofs.HeadLemmas.{survey_without_head-length}
use Rattle.cut_edits.proofs.PieceLemmas.{head_long, piece-holds, span-survey_without_head}
use Rattle.cut_edits.proofs.PieceLemmas.{span-there, survey_without_head-relaid}
use Rattle.cut_edits.specs.Chosen.{Chosen, chosen_file, chosen_needs, chosen_stream, cut_choice}
use Rattle.cut_edits.specs.Chosen.{cut_refuses, first_plan, first_planning, laying_part}
use Rattle.cut_edits.specs.Chosen.{own_slots_part, placed_part, planned_part}
use Rattle.cut_edits.specs.Exact.{exact_part, exact_refuses, file_span, span_piece}
use Rattle.cut_edits.specs.Exact.{survey_without_head}
use Rattle.exact_span.specs.declared.{exact_place.ExactPlace.ExactPlace, span.Span.Span}
use Rattle.info_header.specs.declared.fields.Info.{Info}
use Rattle.laying.{proofs.SurveyFrameLemmas.survey-had, specs.KeptFields.fields_of_head}
use Rattle.laying.specs.{Laid.{file_laid, LaidPart, stream_laid}, NeedsFit.own_choice}
use Rattle.split_edits.specs.Cutting.{IsProperCutting}
use Rattle.split_edits.specs.Split.{cue_sheet_places, cut_part, cutting_of, exact_cutting_of}
use Rattle.split_edits.specs.Split.{exact_places_result, exact_refuses_of, places_to_end}
use Rattle.split_edits.specs.{Split.refuses_of, declared.exact_points.ExactPoints.ExactPoints}
use Rattle.split_edits.specs.declared.exact_points.ExactPoints.TheVariants.{Places as ExactPlaces}
use Rattle.split_edits.specs.declared.exact_points.ExactPoints.TheVariants.{Sheet as InExactSheet}
use Rattle.split_edits.specs.declared.points.Points.{Points, TheVariants.{Places, Sheet as InSheet}}
use Rattle.sync_survey.specs.{Faults.{HoldsStream, SurveyFields}, Survey.survey_of}
use Rattle.sync_survey.specs.declared.survey_fault.SurveyFault.TheVariants.{Absent, Read}

-- ---- the positions of a sheet

end-all : (P : EditFault → Type 0) → ((fault : CueFault) → P (Refused (Sheet fault)))
    → (r : Result (List Place) CueFault) → IfErr (places_to_end r) P
end-all P cue r = grind arith

where-all : (P : EditFault → Type 0) → P (Input 1 Absent)
    → ((size : ℕ) → P (Refused (SheetTooLarge size)))
    → ((fault : CueFault) → P (Refused (Sheet fault))) → (o : Option (List ℕ))
    → IfErr (cue_sheet_places o) P
where-all P absent large cue o = grind (arith, then_all, sheet-all, end-all)

where-late : (o : Option (List ℕ)) → IfErr (cue_sheet_places o) IsLateFault
where-late = where-all IsLateFault refl (λ size. refl) (λ fault. refl)

where-after : (o : Option (List ℕ)) → IfErr (cue_sheet_places o) (IsNotBefore (Input 1 Read))
where-after = where-all (IsNotBefore (Input 1 Read)) (omega arith) (λ size. tt) (λ fault. tt)

as-all : (P : EditFault → Type 0) (r : Result (List Place) EditFault) → IfErr r P
    → IfErr (exact_places_result r) P
as-all P r is = grind arith

-- nothing is refused if the test holds
unless-test : (P : EditFault → Type 0) {refusal : Refusal} → P (Refused refusal) → (test : Bool)
    → IfSome (cond test None (Some refusal)) (λ r. P (Refused r))
unless-test P is test = grind arith

-- ---- cut at positions

module _ (P : EditFault → Type 0)
    (range : (from to frames : ℕ) → P (Refused (Range from to frames))) where
  frames-all : (from to : Place) (file : List ℕ) (s : SurveyFields)
      → IfErr (cut_part from to file s) P
  unfolding laying_part cut_choice
  frames-all from to file s = grind (arith, then_all, refusal_or-all, unless-test)

frames-hold : (from to : Place) (file : List ℕ) {s : SurveyFields} {laid : LaidPart}
    → survey_of file most_frames ≡ Ok s → cut_part from to file s ≡ Ok laid
    → HoldsStream (file_laid laid file s) (stream_laid laid file s)
unfolding laying_part cut_choice chosen_file chosen_stream
frames-hold from to file {s} {laid} surveyed e =
    let parts =
    then_ok {r = cut_choice from to file s} {make = planned_part (first_planning own_choice) s} {b =
    laid} e in
    let same : own_slots_part parts.0 s ≡ laid = cc in
    let right = with_right None (replicate 36 0) (frame_at s.class (length s.frames) from)
    (frame_at s.class (length s.frames) to) {s = s} {chosen = parts.0} refl parts.1 in
    rw (← same) (chosen-holds parts.0
    (survey-had {file = file} most_frames {s = s} surveyed) right.some right.within right.extension)

-- the cutting at positions is proper
pub points-proper : (points : Points) → IsProperCutting (cutting_of points)
points-proper (Places places) = search (arith, frames-all, frames-hold)
points-proper (InSheet sheet) = search (arith, where-late, where-after, frames-all, frames-hold)

-- a refusal of positions is one that may be returned
pub points-refusal : (points : Points) (fault : EditFault) → IsEditRefusal cut_refuses fault
    → IsEditRefusal (refuses_of points) fault
points-refusal points fault is = grind arith

-- the chosen frames in the slots of their plan, given the known survey
module _ (from to : Place) (file : List ℕ) {s known : SurveyFields} (same : known ≡ s) where
  -- these are what is laid from the one place to the other
  pub frames-laid : {chosen : Chosen} {laid : LaidPart} → cut_choice from to file known ≡ Ok chosen
      → laid ≡ placed_part chosen (first_plan own_choice known.class (chosen_needs chosen known))
      → cut_part from to file s ≡ Ok laid
  unfolding laying_part
  frames-laid chose is = grind arith

  -- if the frames are refused, what is laid is refused
  pub frames-refused : {fault : EditFault} → cut_choice from to file known ≡ Err fault
      → cut_part from to file s ≡ Err fault
  unfolding laying_part
  frames-refused chose = grind arith

-- ---- cut at places of samples

module _ (P : EditFault → Type 0)
    (span : (a b samples : ℕ) → P (Refused (NoSpan a b samples))) where
  exact-all : (from to : ExactPlace) (file : List ℕ) (s : SurveyFields)
      → IfErr (exact_part from to file s) P
  unfolding exact_part file_span
  exact-all from to file s = grind (arith, then_all, refusal_or-all, unless-test)

exact-hold : (from to : ExactPlace) (file : List ℕ) {s : SurveyFields} {laid : LaidPart}
    → survey_of file most_frames ≡ Ok s → exact_part from to file s ≡ Ok laid → HoldsStream
    (file_laid laid file (survey_without_head s)) (stream_laid laid file (survey_without_head s))
unfolding exact_part
exact-hold from to file {s} {laid} surveyed e =
    let head = fields_of_head file s.head in
    let parts =
    then_ok e in
    let same : span_piece head parts.0 file (survey_without_head s) ≡ laid = cc in
    rw (← same) (piece-holds head (head_long file s.head)
    (survey_without_head-relaid surveyed)
    (span-survey_without_head (span-there from to head parts.1)))

-- the cutting at places of samples is proper
pub exact-points-proper : (points : ExactPoints) → IsProperCutting (exact_cutting_of points)
exact-points-proper (ExactPlaces places) = search (arith, exact-all, exact-hold)
exact-points-proper (InExactSheet sheet) =
    search (arith, as-all, where-late, where-after, exact-all, exact-hold)

-- a refusal of places is one that may be returned
pub exact-points-refusal : (points : ExactPoints) (fault : EditFault)
    → IsEditRefusal exact_refuses fault → IsEditRefusal (exact_refuses_of points) fault
exact-points-refusal points fault is = grind arith

-- setting the head apart leaves the samples where they are
span_same : (from to : ExactPlace) (head : Option Info) (s : SurveyFields)
    → file_span from to head (survey_without_head s) ≡ file_span from to head s
unfolding file_span
span_same from to head s = grind (arith, survey_without_head-length)

-- the span that was found, given the known survey and head
module _ (from to : ExactPlace) (file : List ℕ) (s : SurveyFields) {known : SurveyFields}
    (same : known ≡ survey_without_head s)
    {head : Option Info} (head_is : head ≡ fields_of_head file s.head) where
  found : {r : Result Span EditFault} → file_span from to head known ≡ r
      → file_span from to (fields_of_head file s.head) s ≡ r
  found is = grind (arith, span_same)

  -- the piece of the span is what is laid from the one place to the other
  pub exact-laid-is : {span : Span} {laid : LaidPart} → file_span from to head known ≡ Ok span
      → laid ≡ span_piece head span file known → exact_part from to file s ≡ Ok laid
  unfolding exact_part
  exact-laid-is is piece = grind (arith, found)

  -- if the span is refused, what is laid is refused
  pub exact-laid-refused : {fault : EditFault} → file_span from to head known ≡ Err fault
      → exact_part from to file s ≡ Err fault
  unfolding exact_part
  exact-laid-refused is = grind (arith, found)
