-- A file of at most as many frames as are allowed: its faults, and that it has none if more frames
-- are allowed.
use Rattle.std.proofs.Common.{ap, arith, Bool, Err, false, IfErr, inl, inr, length, List, Ok}
use Rattle.std.proofs.Common.{Option, Result, rules, Some, ℕ, ◌==◌, ◌∙◌, ◌≡◌, ◌≤◌}
use Rattle.std.proofs.lemmas.{Bool.ne_eqb, Option.{slice_get_cases, slice_get_within}}
use Rattle.bit_fields.specs.Bits.{AreBytes}
use Rattle.commands.proofs.InputLemmas.{of_bytes_behind}
use Rattle.commands.proofs.NamedLemmas.{lost_name, missed_name, unread_name}
use Rattle.commands.proofs.{RefusingLemmas.before_first, WhyLemmas.each_why}
use Rattle.commands.specs.AfterCall.{IsLateFault}
use Rattle.commands.specs.SingleOutput.{file_task, IsEarlyFault, IsFileFault, IsMaking}
use Rattle.commands.specs.SingleOutput.{IsProperTask, Making, Task, TaskRefuses}
use Rattle.commands.specs.declared.fault.{EditFault.{EditFault, TheVariants.Input}, Refusal.Refusal}
use Rattle.frame_header.specs.Fields.{ClassFields}
use Rattle.outside.specs.Files.{Files, Holds, IfTold, IsFileMissing, IsFileThere, Told, Untold}
use Rattle.outside.specs.Seen.{Seen}
use Rattle.pack_edits.specs.Modes.{limited_result, limited_task}
use Rattle.sync_survey.proofs.BytesFaultLemmas.{survey_fields-of_bytes}
use Rattle.sync_survey.proofs.FoldersLemmas.{survey_of-short}
use Rattle.sync_survey.proofs.SurveyPartsLemmas.{all_faults-none_sound, AreSound, frames_from}
use Rattle.sync_survey.proofs.SurveyPartsLemmas.{sound-no_all_faults, survey_fields-parts}
use Rattle.sync_survey.proofs.SurveyPartsLemmas.{survey_fields-told}
use Rattle.sync_survey.proofs.SurveyedFileLemmas.{survey_of-parts}
use Rattle.sync_survey.specs.Faults.{class_from, longest_file, SurveyFields}
use Rattle.sync_survey.specs.{MainData.{rows_of, StreamFrame}, Row.Row, Survey.survey_of}
use Rattle.sync_survey.specs.{Walk.head_of, declared.places.Head.Head}
use Rattle.sync_survey.specs.declared.survey_fault.SurveyFault.{SurveyFault, TheVariants.Absent}

-- ---- more frames are allowed

same_count : (n : ℕ) → (n == n) ≡ false → ⊥
same_count n is = search rules

-- sound frames are no more than are allowed
pub few-rows : (file : List ℕ) (head : Option Head) {class : ClassFields} {allowed : ℕ}
    (rows : List Row) → AreSound file head class allowed rows → length rows ≤ allowed
few-rows file head {allowed = allowed} rows sound =
    elim (slice_get_cases rows allowed).1 as (λ _. length rows ≤ allowed) [
      | inl found ↦ absurd (same_count allowed (sound allowed found.0 found.2).few)
      | inr past ↦ past.0
    ]

sound-more : (file : List ℕ) (head : Option Head) {class : ClassFields} {allowed other : ℕ}
    (rows : List Row) → allowed ≤ other → AreSound file head class allowed rows
    → AreSound file head class other rows
sound-more file head {class} {allowed} rows more sound = λ i r is.
    let here = sound i r is in
    record {
      same = here.same;
      word = here.word;
      main = here.main;
      few =
          grind (
            arith,
            ne_eqb,
            few-rows file head rows sound,
            slice_get_within rows i
                r is,
          );
    }

-- a survey with fewer allowed frames is the survey with more
pub survey_of-more : (file : List ℕ) {allowed other : ℕ} {s : SurveyFields} → allowed ≤ other
    → survey_of file allowed ≡ Ok s → survey_of file other ≡ Ok s
survey_of-more file {allowed} {other} {s} more e =
    let whole = survey_of-parts file allowed e in
    let parts = survey_fields-parts whole.1 in
    let start = parts.0 in
    let read = parts.1 in
    let rows = rows_of file (frames_from file start) in
    let head = head_of file start.first in
    survey_of-short file other whole.0
    ∙ survey_fields-told (record {
      start_is = read.start_is;
      frames = sound-no_all_faults file head (class_from start) other rows
          (sound-more file head rows more
          (all_faults-none_sound file head (class_from start) allowed rows read.frames));
      end = read.end;
    })
    ∙ ap Ok parts.2

-- ---- the source has no fault

limited-sound : (allowed : ℕ) {o : Option (List ℕ)} (made : Result (List ℕ) EditFault)
    → ((file : List ℕ) → o ≡ Some file → (s : SurveyFields) × (survey_of file allowed ≡ Ok s))
    → limited_result (Some allowed) o made ≡ made
limited-sound allowed made sound = grind arith

-- what was made within the limit is made without it
pub limited-made : (allowed : ℕ) (o : Option (List ℕ)) {made : Result (List ℕ) EditFault}
    {new : List ℕ} → limited_result (Some allowed) o made ≡ Ok new → made ≡ Ok new
limited-made allowed o is = grind arith

limited-late : (allowed : ℕ) (file : List ℕ) (made : Result (List ℕ) EditFault) → length file
    ≤ longest_file → IfErr made IsLateFault
    → IfErr (limited_result (Some allowed) (Some file) made) IsLateFault
limited-late allowed file made few late =
    grind (arith, of_bytes_behind, survey_fields-of_bytes, survey_of-short)

module _ (allowed : ℕ) (task : Task) where
  -- the source has no fault, if its content is known
  abbrev pub IsFaultless : Files → Type 0
  IsFaultless files = (file : List ℕ) → Holds files task.source file
      → (s : SurveyFields) × (survey_of file allowed ≡ Ok s)

  -- what the task makes is made within the limit
  pub limited_task-making : {made : List ℕ → List ℕ} {files : Files} → IsFaultless files
      → IsMaking task made files → IsMaking (limited_task (Some allowed) task) made files
  limited_task-making {made} {files} sound is =
      record { there = is.there; makes = at files sound is.makes }
    where
      at : (files : Files) → IsFaultless files → IfTold files (λ f. (bytes : List ℕ)
          → f task.source ≡ Some bytes → AreBytes bytes × (task.makes f ≡ Ok (made bytes)))
          → IfTold files (λ f. (bytes : List ℕ) → f task.source ≡ Some bytes → AreBytes bytes
          × (limited_result (Some allowed) (f task.source) (task.makes f) ≡ Ok (made bytes)))
      at (Untold touched) sound makes = tt
      at (Told f) sound makes = λ bytes held. let m = makes bytes held in
          (m.0, limited-sound allowed (task.makes f) sound ∙ m.1)

  -- a proper task is proper with the limit
  pub limited_task-proper : IsProperTask task → IsProperTask (limited_task (Some allowed) task)
  limited_task-proper proper = record {
    some = proper.some;
    first = proper.first;
    late = grind (arith, limited-late);
    streams = λ f bytes new held octets is. proper.streams f bytes new held octets
        (limited-made allowed (f task.source) is);
  }

-- ---- a fault of the survey

module _ (allowed : ℕ) (make : Making) (stream : List ℕ → List StreamFrame)
    (refuses : Refusal → Bool) (input : List ℕ) where
  abbrev of_file : Task
  of_file = file_task make stream refuses input

  file-refused : (files : Files) {fault : SurveyFault} → IsFileThere files input
      → ((bytes : List ℕ) → Holds files input bytes → survey_of bytes allowed ≡ Err fault)
      → TaskRefuses (limited_task (Some allowed) of_file) files (Input 0 fault)
  file-refused files there is = grind arith

  file-missing : (files : Files) → IsFileMissing files input
      → TaskRefuses (limited_task (Some allowed) of_file) files (Input 0 Absent)
  file-missing files missing = grind arith

  module _ (old new : Seen) (fault : EditFault) where
    -- a fault of the file with the limit is one met before the output is created
    pub survey-early : IsFileFault 0 allowed input old new fault
        → IsEarlyFault (limited_task (Some allowed) of_file) old new fault
    survey-early h =
        grind (
          arith,
          each_why,
          file-refused,
          file-missing,
          missed_name,
          before_first,
          unread_name,
          lost_name,
        )
