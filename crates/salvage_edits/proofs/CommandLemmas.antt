-- What the command leaves, given its steps.
use Rattle.std.proofs.Common.{ap, ap₂, arith, Err, IfErr, length, List, None, Ok, Option, refl}
use Rattle.std.proofs.Common.{Result, Some, sym, ℕ, [], ◌∙◌, ◌∷◌, ◌≡◌, ◌≤◌}
use Rattle.std.{proofs.lemmas.List.length-map, specs.Result.IsErrAnd}
use Rattle.bit_fields.specs.Bits.{AreBytes}
use Rattle.commands.proofs.{MakeLemmas.pass_run, RefusingLemmas.before_first}
use Rattle.commands.proofs.TellingLemmas.{telling_command-text}
use Rattle.commands.specs.{AfterCall.{HasPassNumbers, IsLateFault}, FaultKinds.input_edit_fault}
use Rattle.commands.specs.{Runs.IsRunOf, SentText.IsCommandText}
use Rattle.commands.specs.SingleOutput.{clash_in, HasTaskNumbers, IsEarlyFault, IsMaking}
use Rattle.commands.specs.SingleOutput.{IsProperTask, NeedsMemory, one_command, TaskRefuses}
use Rattle.commands.specs.{SingleOutput.WritesOutput, declared.fault.EditFault.EditFault}
use Rattle.commands.specs.declared.fault.EditFault.TheVariants.{Input, Memory}
use Rattle.cut_edits.proofs.LaidPassLemmas.{file-is, work_layable}
use Rattle.cut_edits.specs.{Chosen.{chosen_file, IsSelected}, Layable.{IsWorkOf, work_file}}
use Rattle.laying.specs.{NeedsFit.own_choice, Surveys.CanBeRelaid}
use Rattle.laying.specs.declared.selected.Selected.{Selected}
use Rattle.outside.{proofs.FilesLemmas.there_holds, specs.Counts.{Counts, NoneFell}}
use Rattle.outside.specs.Files.{Contents, Files, Holds, IfTold, IsFileMissing, IsFileThere, Told}
use Rattle.outside.specs.{Files.Untold, Seen.{Seen, seen_folder}}
use Rattle.salvage.proofs.LaidOutLemmas.{damaged_of-is, read-laid}
use Rattle.salvage.proofs.ReadFaultLemmas.{damaged_of-short}
use Rattle.salvage.specs.DamagedFiles.{damaged_by, damaged_fields, damaged_of, DamagedFields}
use Rattle.salvage.specs.DamagedFiles.{excess_or_damaged, IsDamagedFault, IsDamagedOf}
use Rattle.salvage.specs.DamagedFiles.{no_frame_or_damaged, RefusesDamaged}
use Rattle.salvage.specs.{EmptiedFrames.emptied_from, Text.salvage_text, Walk.first_frame}
use Rattle.salvage.specs.declared.mended.Mended.{Mended}
use Rattle.salvage_edits.proofs.HadLemmas.{damaged_fields-relaid}
use Rattle.salvage_edits.proofs.OrderLemmas.{report-text-same, reports-order}
use Rattle.salvage_edits.proofs.StreamLemmas.{salvaged-holds}
use Rattle.salvage_edits.specs.Ordered.{IsReportInOrder, report_text}
use Rattle.salvage_edits.specs.Ready.{IsMended, IsReportOf, IsSalvageReady, ReadsDamaged}
use Rattle.salvage_edits.specs.Salvaged.{all_chosen, input_salvage_text, input_salvaged}
use Rattle.salvage_edits.specs.Salvaged.{left_stream_or_none, salvage_command, salvage_task}
use Rattle.salvage_edits.specs.Salvaged.{salvage_text_or_none, salvaged_file, salvaged_or_fault}
use Rattle.salvage_edits.specs.declared.work.SalvageWork.{SalvageWork}
use Rattle.sync_survey.specs.Faults.{HoldsStream, longest_file, survey_view, SurveyFields}
use Rattle.sync_survey.specs.{HeadApart.emptied_row, Row.Row, Start.front_end_of}
use Rattle.sync_survey.specs.Survey.{HoldsOctets, IsSurveyLaidOut}
use Rattle.sync_survey.specs.SurveyFaultKinds.{HasRightNumbers}
use Rattle.sync_survey.specs.declared.places.PlacedFrame.{PlacedFrame}
use Rattle.sync_survey.specs.declared.survey_fault.SurveyFault.{SurveyFault}
use Rattle.sync_survey.specs.declared.survey_fault.SurveyFault.TheVariants.{Absent}
use Rattle.sync_survey.specs.declared.survey_fault.SurveyFault.TheVariants.{Memory as NoRoom, Read}
use Rattle.sync_survey.specs.declared.survey_fault.SurveyFault.TheVariants.{Shrunk}

-- ---- a file that may be read

-- what is read of the input, if the command isn't refused
pub record IsReadAt (o : Option (List ℕ)) : Type 0 where
  pub file : List ℕ
  pub there : o ≡ Some file
  pub left : DamagedFields
  pub read : damaged_of file ≡ Ok left

read-by : {file bytes : List ℕ} (r : Result DamagedFields SurveyFault) → damaged_of file ≡ r
    → salvaged_or_fault file r ≡ Ok bytes → IsReadAt (Some file)
read-by (Err fault) is e = absurd cc
read-by {file} (Ok d) is e = record { file = file; there = refl; left = d; read = is }

-- a file from which something is made was read
pub read-where : (o : Option (List ℕ)) {bytes : List ℕ} → input_salvaged o ≡ Ok bytes → IsReadAt o
read-where None e = absurd cc
read-where (Some file) {bytes} e = read-by (damaged_of file) refl e

many-late : (file : List ℕ) (o : Option Row) (d : DamagedFields)
    → IfErr (salvaged_or_fault file (excess_or_damaged o d)) IsLateFault
many-late file o d = grind arith

no_frame_or_damaged-late : (file : List ℕ) (front_end : ℕ) (rows : List Row) (d : DamagedFields)
    → IfErr (salvaged_or_fault file (no_frame_or_damaged front_end rows d)) IsLateFault
no_frame_or_damaged-late file front_end rows d = grind (arith, many-late)

read-late : (file : List ℕ) (front_end : ℕ) (o : Option PlacedFrame)
    → IfErr (salvaged_or_fault file (damaged_by file front_end o)) IsLateFault
read-late file front_end o = grind (arith, no_frame_or_damaged-late)

damaged_fields-late : (file : List ℕ)
    → IfErr (salvaged_or_fault file (damaged_fields file)) IsLateFault
unfolding damaged_fields
damaged_fields-late file = read-late file (front_end_of file) (first_frame file (front_end_of file))

-- the refusals of a file that isn't too long are late
pub salvage-late : {input : List ℕ} (f : Contents) {bytes : List ℕ} → f input ≡ Some bytes
    → length bytes ≤ longest_file → IfErr ((salvage_task input).makes f) IsLateFault
salvage-late f {bytes} held few = rw (held, damaged_of-short bytes few) (damaged_fields-late bytes)

made-holds : (bytes : List ℕ) {new : List ℕ} (r : Result DamagedFields SurveyFault)
    → damaged_of bytes ≡ r → salvaged_or_fault bytes r ≡ Ok new
    → HoldsStream new (left_stream_or_none bytes r)
made-holds bytes (Err fault) is e = absurd cc
made-holds bytes {new} (Ok d) is e =
    let made : salvaged_file bytes d ≡ new = cc in
    rw (← made)
    (salvaged-holds bytes (damaged_of-is bytes is).1 (read-laid bytes is))

-- the refusals are late, and what is made holds what is left
pub salvage_proper : (input : List ℕ) → IsProperTask (salvage_task input)
salvage_proper input = record {
  some = omega arith;
  first = refl;
  late = salvage-late;
  streams = λ f bytes new held octets is.
      (tt, rw held (made-holds bytes (damaged_of bytes) refl (rw held at is)));
}

-- ---- a fault of the reading

-- This was read of the input, which is there, and can be laid anew.
pub record CanBeSalvaged (input : List ℕ) (files : Files) (m : Mended) : Type 0 where
  pub is : IsMended input files m
  pub there : IsFileThere files input
  pub octets : HoldsOctets input files
  pub placed : IsSurveyLaidOut (survey_view m.survey)

-- The work chose all frames of what was read, has said nothing yet, and reports on what was read.
pub record IsPreparedOf (m : Mended) (selected : Selected) (work : SalvageWork) : Type 0 where
  pub made : IsWorkOf m.survey selected work.laid
  pub own :
      IsSelected own_choice (all_chosen (survey_view m.survey)) (survey_view m.survey) selected
  pub unsaid : work.sending ≡ []
  pub reports : (d : DamagedFields) → m.emptied.items ≡ emptied_from 0 d.survey.frames
      → m.gaps.items ≡ d.gaps → IsReportOf d work.report

module _ (input : List ℕ) where
  refuses-bytes : (files : Files) {fault : SurveyFault} → IsFileThere files input
      → ((bytes : List ℕ) → Holds files input bytes → damaged_of bytes ≡ Err fault)
      → TaskRefuses (salvage_task input) files (Input 0 fault)
  refuses-bytes files there is = grind (arith, there_holds)

  refuses-absent : (files : Files) → IsFileMissing files input
      → TaskRefuses (salvage_task input) files (Input 0 Absent)
  refuses-absent files missing = grind arith

  module _ {files after : Files} (before counts : Counts) (same : after ≡ files) where
    rejected : {fault : SurveyFault} → RefusesDamaged input files before counts fault
        → TaskRefuses (salvage_task input) files (Input 0 fault)
        × (seen_folder after counts ≡ seen_folder files before)
    rejected {fault} h = (refuses-bytes files h.there h.bytes, ap₂ seen_folder same h.counts)

    -- a fault of reading is one met before the output is created
    pub early-fault : (fault : SurveyFault) → IsDamagedFault input files before counts fault
        → IsEarlyFault (salvage_task input) (seen_folder files before) (seen_folder after counts)
        (input_edit_fault fault)
    early-fault Absent h = record { defined = refuses-absent files h.0; rose = h.1; files = same }
    early-fault Read h = record {
      before = before_first files (salvage_task input).makes refl;
      rose = h;
      files = same;
    }
    early-fault (Shrunk first second) h = record {
      ended = record { rose = h.ended; counts = h.counts; untold = h.nothing_told };
      files = same;
    }
    early-fault NoRoom h =
        record { there = h.there; few = h.few; stays = ap₂ seen_folder same h.counts }
    early-fault x h = let r = rejected h in record { defined = r.0; stays = r.1 }

  -- a fault of reading has the right numbers
  pub early-numbers : (fault : SurveyFault) → HasRightNumbers fault
      → HasTaskNumbers (salvage_task input) (input_edit_fault fault)
  early-numbers fault h = grind arith

  -- running out of memory, once the input was read
  pub early-memory : {old new : Seen} {d : DamagedFields} → IsFileThere old.files input
      → IsDamagedOf input old.files d → new ≡ old → NeedsMemory input old new
  early-memory {d = d} there read stays = record {
    there = there;
    few = λ bytes holds. (damaged_of-is bytes (read bytes holds)).0;
    stays =
        stays;
  }

  -- a fault of reading is a fault of the whole call
  pub fault-on : {T U : Type 0} {old new : Seen} {fault : EditFault} (r : Result U EditFault)
      → IsErrAnd r (λ y. y ≡ fault) → ReadsDamaged {T = T} input (Err fault) old new
      → ReadsDamaged input r old new
  fault-on (Ok x) is reads = absurd is
  fault-on (Err e) is reads = record {
    refused = rw is reads.refused;
    numbers = rw is reads.numbers;
    done = tt;
    files = reads.files;
    counts = reads.counts;
  }

  -- running out of memory once the input was read is a fault of the whole call
  pub memory-on : {T U : Type 0} {x : T} {old new : Seen} {r : Result U EditFault}
      → IsErrAnd r (λ y. y ≡ Memory) → {m : Mended} → IsFileThere old.files input
      → IsMended input old.files m → new ≡ old → ReadsDamaged input (Ok x) old new
      → ReadsDamaged input r old new
  memory-on {U = U} {old = old} {new = new} {r = r} is there mended stays reads =
      fault-on {T = U} r is (record {
        refused = early-memory there mended.read stays;
        numbers = tt;
        done = tt;
        files = reads.files;
        counts = reads.counts;
      })

  -- ---- what was prepared

  -- the file can be relaid by the survey of what was read
  mended-has : (files : Files) (m : Mended) (is : IsMended input files m) → (bytes : List ℕ)
      → Holds files input bytes → CanBeRelaid bytes (survey_view m.survey)
  mended-has files m is bytes holds =
      rw is.survey (damaged_fields-relaid (damaged_of-is bytes (is.read bytes holds)).1 is.laid)

  -- the work that was made from what is left is prepared for the pass
  pub ready-of : {files : Files} {m : Mended} {selected : Selected} {work : SalvageWork}
      → CanBeSalvaged input files m → IsPreparedOf m selected work
      → IsSalvageReady input files work
  ready-of {files} {m} {selected} {work} can prepared = record {
    octets = can.octets;
    of = can.is.of;
    read = can.is.read;
    laid = can.is.laid;
    layable =
        work_layable prepared.made {input = input} {files = files}
        can.there can.placed (mended-has files m can.is) prepared.own.writable;
    survey = ap survey_view prepared.made.survey_is ∙ can.is.survey;
    selected = rw prepared.made.survey_is (rw prepared.made.selected_is prepared.own);
    unsaid = prepared.unsaid;
    reports = prepared.reports can.is.of can.is.emptied can.is.gaps;
  }

  module _ {files : Files} {work : SalvageWork} (ready : IsSalvageReady input files work) where
    abbrev file_of : List ℕ → List ℕ
    file_of = work_file work.laid

    salvaged-is : (bytes : List ℕ) → file_of bytes ≡ salvaged_file bytes ready.of
    unfolding salvaged_file
    salvaged-is bytes =
        file-is bytes
        (survey_view work.laid.survey) ready.selected.laid
        ∙ ap (λ (s : SurveyFields). chosen_file (all_chosen s) bytes s) ready.survey

    -- the work makes the file of the definition
    pub ready-makes : IsMaking (salvage_task input) file_of files
    ready-makes = record { there = ready.layable.there; makes = at files ready.read ready.octets }
      where
        at : (fs : Files) → IsDamagedOf input fs ready.of → HoldsOctets input fs
            → IfTold fs (λ f. (bytes : List ℕ) → f input ≡ Some bytes
            → AreBytes bytes × (input_salvaged (f input) ≡ Ok (file_of bytes)))
        at (Untold touched) read octets = tt
        at (Told f) read octets = λ bytes held. (
          octets bytes held,
          ap input_salvaged held ∙ ap (salvaged_or_fault bytes) (read bytes held)
              ∙ ap Ok (sym (salvaged-is bytes)),
        )

    frames-same : length (survey_view work.laid.survey).frames ≡ length ready.of.survey.frames
    frames-same = ap (λ (s : SurveyFields). length s.frames) ready.survey
        ∙ length-map ready.of.survey.frames emptied_row

    -- the text is the text of what was read
    pub ready-text : (output : List ℕ) {all : List ℕ}
        → IsCommandText (salvage_command input output) files all
        → all ≡ report_text (length (survey_view work.laid.survey).frames) work.report
    ready-text output {all} is =
        let told = telling_command-text (λ f. input_salvage_text (f input))
        (one_command (salvage_task input) output) is in
        told.2 ∙ at files told.1 ready.layable.there ready.read
        ∙ sym (report-text-same ready.reports)
        ∙ sym (ap (λ n. report_text n work.report) frames-same)
      where
        told-same : (f g : Contents) → Told f ≡ Told g → f ≡ g
        told-same f g e = cc

        at : (fs : Files) {f : Contents} → fs ≡ Told f → IsFileThere fs input
            → IsDamagedOf input fs ready.of → input_salvage_text (f input) ≡ salvage_text ready.of
        at (Untold touched) e there read = absurd cc
        at (Told g) {f} e there read =
            let held = there_holds g there in
            ap (λ (h : Contents). input_salvage_text (h input)) (sym (told-same g f e))
            ∙ ap input_salvage_text held.1 ∙ ap salvage_text_or_none (read held.0 held.1)

    -- the entries of its report are in order
    pub ready-order : IsReportInOrder work.report
    ready-order = reports-order ready.laid ready.reports

-- ---- runs of the command

-- what a call says of a file that it makes
abbrev pub text_of : List ℕ → Contents → List ℕ
text_of input f = input_salvage_text (f input)

-- a call that wrote what is left, or a part of it, is a run of the command without a text
pub written_run : {input output : List ℕ} (free : clash_in (salvage_task input) output ≡ None)
    {old new : Seen} {work : SalvageWork} {r : Result (Unit {0}) EditFault}
    → IsSalvageReady input old.files work → IfErr r HasPassNumbers
    → WritesOutput (work_file work.laid) (input ∷ []) output old new r
    → NoneFell old.counts new.counts → IsRunOf (one_command (salvage_task input) output) old new r
written_run {input} {output} free
    {old} {work = work} ready numbers wrote fell =
    pass_run (salvage_task input) output free
    (ready-makes input ready) (salvage_proper input) numbers wrote fell
