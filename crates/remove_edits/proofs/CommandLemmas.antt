-- A removal as a command: its refusals come after memory is taken, and what it makes holds the
-- stream that it says.
use Rattle.std.proofs.Common.{ap, arith, Err, length, List, Ok, refl, Result, subst, sym, ℕ, ◌∙◌}
use Rattle.std.{proofs.Common.◌≡◌, specs.Prelude.{IfErr, ◌≤◌}}
use Rattle.bit_fields.specs.Bits.{AreBytes}
use Rattle.commands.proofs.InputLemmas.{file_makes, file_proper, IsProperMaking}
use Rattle.commands.{proofs.RefusingLemmas.{then_late, then_ok}, specs.AfterCall.IsLateFault}
use Rattle.commands.specs.SingleOutput.{IsMaking, IsProperTask, most_frames}
use Rattle.commands.specs.declared.fault.EditFault.{EditFault}
use Rattle.cut_edits.proofs.HeadLemmas.{survey_without_head-length}
use Rattle.cut_edits.proofs.PieceLemmas.{head_long, survey_without_head-relaid}
use Rattle.cut_edits.specs.{Chosen.cut_refuses, Exact.survey_without_head}
use Rattle.exact_span.specs.declared.exact_place.ExactPlace.{ExactPlace}
use Rattle.laying.specs.KeptFields.{fields_of_head}
use Rattle.outside.specs.Files.{Files, Holds, IsFileThere}
use Rattle.remove_edits.{proofs.RemovalLemmas.removal-holds, specs.Ready.ArePartsLeft}
use Rattle.remove_edits.specs.Removed.{all_stretch_frames, parts_left, parts_or_range, removal_file}
use Rattle.remove_edits.specs.Removed.{removal_stream, remove_making, remove_stream}
use Rattle.remove_edits.specs.Removed.{remove_surveyed_stream, remove_task, stream_of_parts}
use Rattle.seam_plan.proofs.StayingLemmas.{staying-order}
use Rattle.seam_plan.specs.{Stretches.{AreInOrder, staying_parts}, declared.stretches.Part.Part}
use Rattle.sync_survey.specs.{Faults.{HoldsStream, SurveyFields}, Survey.survey_of}
use Rattle.sync_survey.specs.declared.survey_fault.SurveyFault.{SurveyFault}

-- ---- the parts

-- parts that aren't refused are those that stay
pub ok-parts : (frames : ℕ) (r : Result (List Part) (ℕ × ℕ)) {parts : List Part}
    → parts_or_range frames r ≡ Ok parts → r ≡ Ok parts
ok-parts frames (Ok ps) e = cc
ok-parts frames (Err pair) e = absurd cc

late-parts : (frames : ℕ) (r : Result (List Part) (ℕ × ℕ))
    → IfErr (parts_or_range frames r) IsLateFault
late-parts frames (Ok parts) = tt
late-parts frames (Err pair) = grind arith

module _ (stretches : List (ExactPlace × ExactPlace)) where
  -- parts that aren't refused are at least one, in order
  pub left-order : (s : SurveyFields) {parts : List Part} → parts_left stretches s ≡ Ok parts
      → (1 ≤ length parts) × AreInOrder 0 (length s.frames) parts
  unfolding parts_left
  left-order s {parts} e =
      let frames = length s.frames in
      let numbers = all_stretch_frames s.class frames stretches in
      staying-order frames numbers
      (ok-parts frames (staying_parts frames numbers) e)

  -- they can be laid as one splice, once the head is set apart
  pub left-parts : (file : List ℕ) {s : SurveyFields} {parts : List Part}
      → survey_of file most_frames ≡ Ok s → parts_left stretches s ≡ Ok parts
      → ArePartsLeft (survey_without_head s) parts
  left-parts file {s} {parts} is e =
      let order = left-order s e in
      let same = survey_without_head-length s in
      record {
        some = order.0;
        order = subst (λ n. AreInOrder 0 n parts) (sym same) order.1;
        placed = (survey_without_head-relaid is).placed;
      }

  -- ---- the command

  late : (file : List ℕ) (s : SurveyFields) → IfErr (remove_making stretches file s) IsLateFault
  unfolding remove_making parts_left
  late file s = grind (arith, then_late, late-parts)

  -- the parts that were found are what is left
  pub remove-is : (file : List ℕ) (s : SurveyFields) {parts : List Part}
      → parts_left stretches s ≡ Ok parts → remove_making stretches file s
      ≡ Ok (removal_file parts (fields_of_head file s.head) file (survey_without_head s))
  unfolding remove_making
  remove-is file s e = rw e refl

  -- if none was found, nothing is made
  pub remove-refused : (file : List ℕ) (s : SurveyFields) {fault : EditFault}
      → parts_left stretches s ≡ Err fault → remove_making stretches file s ≡ Err fault
  unfolding remove_making
  remove-refused file s e = rw e refl

  made_stream : (file : List ℕ) {s : SurveyFields} {made : List ℕ}
      → survey_of file most_frames ≡ Ok s → remove_making stretches file s ≡ Ok made
      → HoldsStream made (stream_of_parts file s (parts_left stretches s))
  unfolding remove_making
  made_stream file {s} {made} is e =
      let head = fields_of_head file s.head in
      let by = then_ok e in
      let same : removal_file by.0 head file (survey_without_head s) ≡ made = cc in
      subst (λ (r : Result (List Part) EditFault). HoldsStream made (stream_of_parts file s r))
      (sym by.1)
      (subst (λ (n : List ℕ). HoldsStream n (removal_stream by.0 file (survey_without_head s))) same
      (removal-holds (left-parts file is by.1)
      (survey_without_head-relaid is) head (head_long file s.head)))

  proper : IsProperMaking (remove_making stretches) (remove_stream stretches)
  proper = record {
    late = late;
    streams = λ file s new all is made.
        subst (λ (r : Result SurveyFields SurveyFault). HoldsStream new
        (remove_surveyed_stream stretches file r))
        (sym is) (made_stream file is made);
  }

  -- the command is proper
  pub remove-proper : (input : List ℕ) → IsProperTask (remove_task stretches input)
  remove-proper input = search (arith, file_proper, proper)

  -- the file of the parts that were found is what the command makes
  pub remove-makes : {input : List ℕ} {s : SurveyFields} {parts : List Part}
      {made : List ℕ → List ℕ} {files : Files} → IsFileThere files input
      → ((bytes : List ℕ) → Holds files input bytes → survey_of bytes most_frames ≡ Ok s)
      → ((bytes : List ℕ) → Holds files input bytes → AreBytes bytes)
      → parts_left stretches s ≡ Ok parts
      → ((bytes : List ℕ) → Holds files input bytes → made bytes
      ≡ removal_file parts (fields_of_head bytes s.head) bytes (survey_without_head s))
      → IsMaking (remove_task stretches input) made files
  remove-makes {input} {s} {parts} {made} {files} there surveyed
      octets left is =
      file_makes (remove_making stretches)
      (remove_stream stretches) cut_refuses input there surveyed octets
      (λ bytes holds. remove-is bytes s left ∙ ap Ok (sym (is bytes holds)))
