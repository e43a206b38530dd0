-- Each written file is of laid frames behind an Info frame that gives their numbers, so no frame of
-- it is lost, whether its head is set apart or not.
use Rattle.std.proofs.Common.{ap, append-nil, arith, Bool, Err, false, inl, length, List, None, Ok}
use Rattle.std.proofs.Common.{Option, refl, Result, Some, subst, sym, true, ℕ, [], ◌+◌, ◌-◌, ◌<◌}
use Rattle.std.proofs.{Common.{◌∷◌, ◌≡◌}, lemmas.List.{length-drop, length-map, length-take-le}}
use Rattle.std.{proofs.lemmas.List.FromFn.length-range_with_len, specs.Prelude.{IfSome, ◌≤◌}}
use Rattle.chosen_streams.proofs.ChosenCaseLemmas.{packed-made}
use Rattle.chosen_streams.proofs.{JoinCaseLemmas.{join-plan, parts-join}, NamedLemmas.text-named}
use Rattle.chosen_streams.{proofs.SalvageCaseLemmas.{left-had, left-some}, specs.Laws.AreNamed}
use Rattle.command_table.specs.Table.{command_of}
use Rattle.commands.proofs.{InputLemmas.made_parts, RefusingLemmas.then_ok}
use Rattle.commands.specs.{Command.{Command, Made, Output}, Refusing.then_made}
use Rattle.commands.specs.SingleOutput.{clash_or, command_result, input_result, most_frames}
use Rattle.commands.specs.{SingleOutput.{one_command, Task, task_result}, WithText.with_text}
use Rattle.commands.specs.declared.fault.EditFault.{EditFault}
use Rattle.cue_sheet.specs.declared.place.Place.{Place}
use Rattle.cut_edits.proofs.ChosenLemmas.{all_choosing, by_usual, cut_choosing, first_is_planning}
use Rattle.cut_edits.proofs.ChosenLemmas.{IsChoosing, IsPlanning, laid-parts, plan-fitting}
use Rattle.cut_edits.proofs.ChosenLemmas.{usual_slots}
use Rattle.cut_edits.proofs.PieceLemmas.{head_long, piece-parts, plain-long}
use Rattle.cut_edits.proofs.PieceLemmas.{span-survey_without_head, span-there, span_chosen}
use Rattle.cut_edits.proofs.{PieceLemmas.survey_without_head-relaid, SealedLemmas.for-whole}
use Rattle.cut_edits.proofs.SpanLemmas.{with-fitting}
use Rattle.cut_edits.specs.Chosen.{Choosing, chosen_file, cut_command, laying_making}
use Rattle.cut_edits.specs.Chosen.{own_slots_part, placed_part, Planning}
use Rattle.cut_edits.specs.Exact.{exact_command, exact_making, exact_part, file_span}
use Rattle.cut_edits.specs.Exact.{row_sealed_part, span_part, span_piece, survey_without_head}
use Rattle.exact_span.proofs.SealLemmas.{sealed-whole}
use Rattle.exact_span.specs.declared.{exact_place.ExactPlace.ExactPlace, span.Span.Span}
use Rattle.file_laws.specs.WrittenLaws.{AllOutputs, AllWritten, IsCountedFile, WritesOnly}
use Rattle.file_laws.specs.WrittenLaws.{WrittenFilesAreCounted, WrittenFramesStay}
use Rattle.frame_header.specs.{Fields.{ClassFields, HeaderFields, SlotFields}, Tables.window_of}
use Rattle.frame_writer.specs.Frames.{Frame}
use Rattle.info_header.specs.{FileInfo.all_bytes, declared.fields.Info.Info}
use Rattle.job_words.specs.Request.{Cut, CutExact, Drill, Fade, Gain, Help, InfoFile, Join}
use Rattle.job_words.specs.Request.{ListFile, Pack, Remove, Salvage, SplitAt, SplitBy, SplitExact}
use Rattle.job_words.specs.Request.{Undo, Version}
use Rattle.join_edits.specs.Join.{join_command, joined_file, joined_frames, joined_plan}
use Rattle.join_edits.specs.Join.{joined_row_file}
use Rattle.joined_inputs.specs.{Parts.join_parts, Planned.info_kept}
use Rattle.laying.proofs.{FittingFrameLemmas.{entries-hold, fitting-laid}, HoldLemmas.blocks-kept}
use Rattle.laying.proofs.{LaidFileLemmas.laid-frames-stay, LaidLemmas.{first-there, laid-slots}}
use Rattle.laying.{proofs.SurveyFrameLemmas.survey-had, specs.Fits.{FitsFromReach, IsFittingPlan}}
use Rattle.laying.specs.KeptFields.{fields_of_head}
use Rattle.laying.specs.Laid.{file_laid, file_with_first, frames_laid, info_laid, LaidPart}
use Rattle.laying.specs.{Laid.needs_laid, LaidFiles.HasInfoSizes, LaidLaws.LosesNoFrame}
use Rattle.laying.specs.{NeedsFit.own_choice, Relaid.{AreParts, FilePart}, Surveys.CanBeRelaid}
use Rattle.laying.specs.Written.{back_blocks, front_blocks, plain_info, slot_in}
use Rattle.laying.specs.declared.info.Kept.{Kept}
use Rattle.outside.specs.Files.{Contents}
use Rattle.pack_edits.proofs.ModeLemmas.{planning}
use Rattle.pack_edits.specs.Modes.{mode_planning, pack_mode_command, pack_task}
use Rattle.remove_edits.proofs.CommandLemmas.{left-parts}
use Rattle.remove_edits.proofs.RemovalLemmas.{file-is as removal-laid-file, found as first-left}
use Rattle.remove_edits.{proofs.RemovalLemmas.removal-is, specs.Ready.ArePartsLeft}
use Rattle.remove_edits.specs.Removed.{removal_file, removal_frames, removal_kept, remove_command}
use Rattle.remove_edits.specs.Removed.{remove_making, remove_task}
use Rattle.requests.specs.declared.mode.PackMode.{PackMode}
use Rattle.salvage.specs.DamagedFiles.{damaged_of, DamagedFields}
use Rattle.salvage_edits.specs.Salvaged.{all_chosen, input_salvage_text, input_salvaged}
use Rattle.salvage_edits.specs.Salvaged.{salvage_command, salvage_task, salvaged_file}
use Rattle.salvage_edits.specs.Salvaged.{salvaged_or_fault}
use Rattle.seam_plan.specs.declared.stretches.Part.{Part}
use Rattle.seamless_edits.proofs.SpliceFileLemmas.{blocks, file-is, found, info, parts-whole}
use Rattle.seamless_edits.proofs.SpliceFileLemmas.{seamless-is}
use Rattle.seamless_edits.proofs.SplicePartLemmas.{AreWholeFiles, IsWholeFile}
use Rattle.seamless_edits.specs.Seamless.{delay_of_splice, seamless_command, seamless_file}
use Rattle.seamless_edits.specs.Seamless.{seamless_frames, seamless_info}
use Rattle.slot_plan.specs.declared.needs.{Need.Need, Placed.Placed}
use Rattle.split_edits.proofs.{CommandLemmas.first-parts, PartsLemmas.split-parts}
use Rattle.split_edits.specs.Cutting.{Cutting, piece_parts, piece_parts_from, pieces_from}
use Rattle.split_edits.specs.Cutting.{split_command}
use Rattle.split_edits.specs.Split.{cut_part, given_cutting, given_exact_cutting, sheet_cutting}
use Rattle.split_edits.specs.Split.{sheet_exact_cutting}
use Rattle.sync_survey.specs.{Faults.SurveyFields, HeadApart.emptied_survey, Row.Row}
use Rattle.sync_survey.specs.{Survey.survey_of, declared.survey_fault.SurveyFault.SurveyFault}

-- ---- one output

one-stays : (output : List ℕ) (clash : Option ℕ) {r : Result (List ℕ) EditFault}
    → ((bytes : List ℕ) → r ≡ Ok bytes → IsCountedFile bytes) → {made : Made}
    → command_result output (clash_or clash r) ≡ Ok made → AllOutputs IsCountedFile made.outputs
one-stays output clash stays e = grind arith

one_writes : (task : Task) (output : List ℕ)
    → ((files : Contents) (bytes : List ℕ) → task.makes files ≡ Ok bytes → IsCountedFile bytes)
    → WritesOnly IsCountedFile (one_command task output)
unfolding task_result
one_writes task output stays files made e = grind (arith, one-stays)

-- ---- frames of one file, in the slots of a plan that can be written

placed-some : (window reach : ℕ) (needs : List Need) (placed : List Placed)
    → FitsFromReach window reach needs placed → 0 < length needs → 0 < length placed
unfolding FitsFromReach
placed-some window reach needs placed fits some = grind arith

module _ (laid : LaidPart) {file : List ℕ} {s : SurveyFields} (has : CanBeRelaid file s)
    (some : laid.from < laid.to) (within : laid.to ≤ length s.frames)
    (fitting : IsFittingPlan (window_of s.class.version) (needs_laid laid s) laid.placed)
    (long : length laid.extension ≡ 36) where
  needs-many : length (needs_laid laid s) ≡ laid.to - laid.from
  needs-many = grind (arith, length-map, length-take-le, length-drop)

  frames-some : 0 < length (frames_laid laid file s)
  frames-some =
      omega (
        arith,
        placed-some (window_of s.class.version) 0 (needs_laid laid s) laid.placed fitting.fits
            (omega (arith, needs-many, some)),
        length-map (frames_laid laid file s) slot_in,
        ap (λ (l : List SlotFields). length l) (laid-slots laid has some within fitting),
        length-map laid.placed (λ (p : Placed). p.slot),
      )

  -- the file of them
  laid-counted : IsCountedFile (file_laid laid file s)
  laid-counted =
      let first = first-there s.frames laid.from (omega (arith, some, within)) in
      let row = has.placed laid.from first.0 first.1 in
      let blocks = blocks-kept file s has in
      let sizes =
      for-whole s.class (frames_laid laid file s) laid.quality long in
      let are = fitting-laid
      (record { has = has; class = refl; some = some; within = within }) fitting in
      subst (λ (o : Option Row). IsCountedFile (file_with_first o laid file s)) (sym first.1)
      (record {
        class = s.class;
        front = front_blocks file s;
        first = first.0.header;
        info = info_laid laid file s;
        frames = frames_laid laid file s;
        back = back_blocks file s;
        is = refl;
        laid = record {
          blocks_before = blocks.0;
          header = row.known;
          class = row.class_is;
          sizes = record { table = sizes.table; extension = sizes.extension };
          some = frames-some;
          entries = are.entries;
          laid = are.fit;
          blocks_behind = blocks.1;
        };
        frames_are = refl;
        bytes_are = refl;
      })

-- ---- frames that are chosen from one file, in the slots of a plan

module _ {choose : Choosing} {plan : Planning} (choosing : IsChoosing choose)
    (planned : IsPlanning plan) where
  chosen-stay : (file : List ℕ) {s : SurveyFields} {made : List ℕ} → survey_of file most_frames
      ≡ Ok s → laying_making choose plan file s ≡ Ok made → IsCountedFile made
  chosen-stay file {s} {made} surveyed e =
      let by = laid-parts choose plan e in
      let right = choosing.right file s by.chosen by.chose in
      let had = survey-had most_frames surveyed in
      let fitting =
      planned.fitting by.chosen s had.placed right.some right.within by.placed by.planned in
      subst IsCountedFile by.is (laid-counted (placed_part by.chosen by.placed) had
      right.some right.within fitting right.extension)

  where-stay : (o : Option (List ℕ)) {made : List ℕ}
      → input_result (laying_making choose plan) o ≡ Ok made → IsCountedFile made
  where-stay None e = absurd cc
  where-stay (Some file) {made} e =
      let parts = made_parts (laying_making choose plan) e in
      chosen-stay file parts.1 parts.2

cut-stay : (from to : Place) (least : Bool) (input output : List ℕ)
    → WritesOnly IsCountedFile (cut_command from to least input output)
cut-stay from to least input output =
    search (arith, one_writes, where-stay, cut_choosing, first_is_planning, by_usual)

pack-stay : (mode : PackMode) (input output : List ℕ)
    → WritesOnly IsCountedFile (pack_mode_command mode input output)
pack-stay mode input output =
    let plan = mode_planning mode in
    one_writes (pack_task mode input) output
    (λ files bytes e. where-stay all_choosing (planning mode) (files input)
    (packed-made mode (files input) e))

-- ---- the frames that a decoder needs for some samples

module _ (from to : ExactPlace) (file : List ℕ) {s : SurveyFields}
    (surveyed : survey_of file most_frames ≡ Ok s) where
  span-stays : {span : Span} → file_span from to (fields_of_head file s.head) s ≡ Ok span
      → IsCountedFile
      (file_laid (span_piece (fields_of_head file s.head) span file (survey_without_head s)) file
      (survey_without_head s))
  unfolding span_piece
  span-stays {span} e =
      let head = fields_of_head file s.head in
      let own = survey_without_head s in
      let has = survey_without_head-relaid surveyed in
      let inside = span-survey_without_head (span-there from to head e) in
      let plain = span_part head span own in
      let first = first-there own.frames span.first (omega (arith, inside.some, inside.within)) in
      let whole =
      for-whole own.class (frames_laid plain file own) plain.quality
      (plain-long head (head_long file s.head) has inside) in
      let sealed = sealed-whole first.0.header whole in
      subst
      (λ (o : Option Row). IsCountedFile (file_laid (row_sealed_part o plain file own) file own))
      (sym first.1)
      (laid-counted (row_sealed_part (Some first.0) plain file own) has inside.some
      inside.within
      (with-fitting (span_chosen head span) own has.placed inside.some inside.within span.led)
      sealed.extension)

  -- the file of the samples between two places
  pub samples-stay : {laid : LaidPart} → exact_part from to file s ≡ Ok laid
      → IsCountedFile (file_laid laid file (survey_without_head s))
  unfolding exact_part
  samples-stay e = grind (arith, then_ok, span-stays)

exact-stays : (from to : ExactPlace) (o : Option (List ℕ)) {made : List ℕ}
    → input_result (exact_making from to) o ≡ Ok made → IsCountedFile made
exact-stays from to None e = absurd cc
exact-stays from to (Some file) {made} e =
    let parts = made_parts (exact_making from to) e in
    let by = piece-parts from to parts.2 in
    subst IsCountedFile by.is (span-stays from to file parts.1 by.span_is)

exact-stay : (input : List ℕ) (from to : ExactPlace) (output : List ℕ)
    → WritesOnly IsCountedFile (exact_command from to input output)
exact-stay input from to output = search (arith, one_writes, exact-stays)

-- ---- the pieces of a split

-- the frames between two positions, in the slots of their plan
range-stays : (from to : Place) (file : List ℕ) {s : SurveyFields}
    → survey_of file most_frames ≡ Ok s → {laid : LaidPart} → cut_part from to file s ≡ Ok laid
    → IsCountedFile (file_laid laid file s)
range-stays from to file {s} surveyed {laid} e =
    chosen-stay (cut_choosing from to)
    (first_is_planning (inl refl)) file surveyed
    (ap (λ (r : Result LaidPart EditFault). then_made r (λ laid. Ok (file_laid laid file s))) e)

module _ {P : Type 0} (cut : Cutting P) (prefix : List ℕ)
    (stays : (from to : P) (file : List ℕ) (s : SurveyFields) → survey_of file most_frames ≡ Ok s
    → (laid : LaidPart) → cut.between from to file s ≡ Ok laid
    → IsCountedFile (file_laid laid file (cut.survey s))) where
  module _ (file : List ℕ) {s : SurveyFields} (surveyed : survey_of file most_frames ≡ Ok s) where
    abbrev AllStay : ℕ → List LaidPart → Type 0
    AllStay k all = AllOutputs IsCountedFile (pieces_from prefix k file (cut.survey s) all)

    from-stay : (k : ℕ) (from : P) (places : List P) {all : List LaidPart}
        → piece_parts_from cut file s from places ≡ Ok all → AllStay k all
    from-stay k from [] {all} e = let none : [] ≡ all = cc in subst (AllStay k) none tt
    from-stay k from (to ∷ places) {all} e =
        let one = then_ok e in
        let more = first-parts one.2 in
        subst (AllStay k) more.2
        (stays from to file s surveyed one.0 one.1, from-stay (k + 1) to places more.1)

    pieces-stay : (places : List P) {all : List LaidPart} → piece_parts cut file s places ≡ Ok all
        → AllStay 1 all
    pieces-stay places e = grind (arith, from-stay)

  split-stays : (input : List ℕ) → WritesOnly IsCountedFile (split_command cut input prefix)
  split-stays input files made e = grind (arith, split-parts, pieces-stay)

-- ---- all frames of several files

module _ {first : FilePart} (more : List FilePart)
    (are : AreParts first.survey.class (first ∷ more)) where
  abbrev class : ClassFields
  class = first.survey.class

  abbrev frames : List Frame
  frames = joined_frames class (first ∷ more)

  info-sizes : HasInfoSizes (plain_info class frames)
  info-sizes = grind (arith, length-map, length-range_with_len)

  joined-stays : IsCountedFile (joined_file (first ∷ more))
  unfolding joined_file
  joined-stays =
      let part = are.0 in
      let plan = joined_plan class (first ∷ more) in
      let found = first-there first.survey.frames 0 (omega (arith, part.some, part.within)) in
      let row = part.has.placed 0 found.0 found.1 in
      let hold =
      entries-hold class own_choice (first ∷ more) plan (omega arith) are
      (usual_slots (inl refl)) (join-plan more are) in
      subst (λ (o : Option Row). IsCountedFile (joined_row_file o first (first ∷ more)))
      (sym found.1)
      (record {
        class = class;
        front = front_blocks first.file first.survey;
        first = found.0.header;
        info = plain_info class frames;
        frames = frames;
        back = [];
        is = refl;
        laid = record {
          blocks_before = (blocks-kept first.file first.survey part.has).0;
          header = row.known;
          class = row.class_is;
          sizes = info-sizes;
          some = hold.some;
          entries = hold.entries;
          laid = hold.fit;
          blocks_behind = tt;
        };
        frames_are = refl;
        bytes_are = refl;
      })

inputs-stay : (files : Contents) (inputs : List (List ℕ)) → 1 ≤ length inputs →
    {parts : List FilePart} → join_parts files inputs ≡ Ok parts → IsCountedFile (joined_file parts)
inputs-stay files [] some e = absurd (omega (arith, some))
inputs-stay files (name ∷ names) some {parts} e = grind (arith, parts-join e, joined-stays)

join-stay : (output : List ℕ) (inputs : List (List ℕ)) → 1 ≤ length inputs
    → WritesOnly IsCountedFile (join_command output inputs)
join-stay output inputs some = grind (arith, one_writes, then_ok, inputs-stay)

-- ---- what is left of a damaged file

left-stays : (file : List ℕ) {d : DamagedFields} → damaged_of file ≡ Ok d
    → IsCountedFile (salvaged_file file d)
unfolding salvaged_file chosen_file
left-stays file {d} read =
    let own = emptied_survey d.survey in
    let had = left-had file read in
    let some = left-some file read in
    laid-counted (own_slots_part (all_chosen own) own) had some (omega arith)
    (plan-fitting (all_chosen own) own had.placed some (omega arith) (inl refl)) refl

read-stays : (o : Option (List ℕ)) (bytes : List ℕ) → input_salvaged o ≡ Ok bytes
    → IsCountedFile bytes
read-stays None bytes e = absurd cc
read-stays (Some file) bytes e = at (damaged_of file) refl e
  where
    at : (r : Result DamagedFields SurveyFault) → damaged_of file ≡ r
        → salvaged_or_fault file r ≡ Ok bytes → IsCountedFile bytes
    at (Err fault) read e = absurd cc
    at (Ok d) read e = let same : salvaged_file file d ≡ bytes = cc in
        subst IsCountedFile same (left-stays file read)

text-stays : (text : List ℕ) (r : Result Made EditFault)
    → ((made : Made) → r ≡ Ok made → AllOutputs IsCountedFile made.outputs) → (made : Made)
    → with_text text r ≡ Ok made → AllOutputs IsCountedFile made.outputs
text-stays text r stays made e = grind arith

salvage-stay : (input output : List ℕ) → WritesOnly IsCountedFile (salvage_command input output)
salvage-stay input output files made e =
    text-stays (input_salvage_text (files input))
    ((one_command (salvage_task input) output).makes files)
    (one_writes (salvage_task input) output (λ others. read-stays (others input)) files) made e

-- ---- several files without seams

-- the Info frame of a splice gives its numbers, with or without delay and padding
splice-frames : (delay : Option ℕ) (row : Row) (first : FilePart) (parts : List FilePart)
    → (seamless_info delay row first parts).frames ≡ Some (length (seamless_frames first parts))
splice-frames None row first parts = refl
splice-frames (Some delay) row first parts = refl

splice-bytes : (delay : Option ℕ) (row : Row) (first : FilePart) (parts : List FilePart)
    → (seamless_info delay row first parts).bytes
    ≡ Some (all_bytes first.survey.class slot_in (seamless_frames first parts))
splice-bytes None row first parts = refl
splice-bytes (Some delay) row first parts = refl

splice-stays : {first : FilePart} (parts : List FilePart)
    → IsWholeFile first.survey.class first → AreWholeFiles first.survey.class parts
    → IsCountedFile (seamless_file (first ∷ parts))
splice-stays {first} parts is are =
    let row : Row = (found first parts is are).0 in
    record {
      class = first.survey.class;
      front = blocks first parts is are;
      first = row.header;
      info = info first parts is are;
      frames = seamless_frames first parts;
      back = [];
      is = seamless-is first parts is are;
      laid = file-is first parts is are;
      frames_are = splice-frames (delay_of_splice first parts) row first parts;
      bytes_are = splice-bytes (delay_of_splice first parts) row first parts;
    }

files-stay : (files : Contents) (names : List (List ℕ)) {parts : List FilePart}
    → 1 ≤ length names → join_parts files names ≡ Ok parts → IsCountedFile (seamless_file parts)
files-stay files names {parts} some e = grind (arith, parts-whole files names some e, splice-stays)

seamless-stay : (output : List ℕ) (inputs : List (List ℕ)) → 1 ≤ length inputs
    → WritesOnly IsCountedFile (seamless_command output inputs)
seamless-stay output inputs some files made e =
    grind (arith, text-stays, one_writes, then_ok, files-stay)

-- ---- the ranges of a file that stay

-- the Info frame gives the number of frames, whatever is kept of the head
kept-frames : (kept : Option Kept) (h : HeaderFields) (c : ClassFields) (frames : List Frame)
    → (info_kept kept h c frames).frames ≡ Some (length frames)
kept-frames None h c frames = refl
kept-frames (Some kept) h c frames = refl

-- it gives the number of bytes
kept-bytes : (kept : Option Kept) (h : HeaderFields) (c : ClassFields) (frames : List Frame)
    → (info_kept kept h c frames).bytes ≡ Some (all_bytes c slot_in frames)
kept-bytes None h c frames = refl
kept-bytes (Some kept) h c frames = refl

-- the file of the parts that stay
ranges-stay : {s : SurveyFields} {parts : List Part} (can : ArePartsLeft s parts)
    {file : List ℕ} → CanBeRelaid file s → (head : Option Info)
    → IfSome head (λ (i : Info). length i.extension ≡ 36)
    → IsCountedFile (removal_file parts head file s)
ranges-stay {s} {parts} can {file} has head long =
    let first : HeaderFields = (first-left can has).0.header in
    let frames = removal_frames parts file s in
    let kept = removal_kept head s parts in
    record {
      class = s.class;
      front = front_blocks file s;
      first = first;
      info = info_kept kept first s.class frames;
      frames = frames;
      back = back_blocks file s;
      is = removal-is can has head long;
      laid = removal-laid-file can has head long;
      frames_are = kept-frames kept first s.class frames;
      bytes_are = kept-bytes kept first s.class frames;
    }

-- the file that is made of an input
left-stay : (stretches : List (ExactPlace × ExactPlace)) (o : Option (List ℕ)) (made : List ℕ)
    → input_result (remove_making stretches) o ≡ Ok made → IsCountedFile made
unfolding remove_making
left-stay stretches None made e = absurd cc
left-stay stretches (Some file) made e =
    let parts = made_parts (remove_making stretches) e in
    let s : SurveyFields = parts.0 in
    let head = fields_of_head file s.head in
    let own = survey_without_head s in
    let left = then_ok
    parts.2 in
    let same : removal_file left.0 head file own ≡ made = cc in
    subst IsCountedFile same
    (ranges-stay (left-parts stretches file parts.1 left.1)
    (survey_without_head-relaid parts.1) head (head_long file s.head))

remove-stay : (stretches : List (ExactPlace × ExactPlace)) (input output : List ℕ)
    → WritesOnly IsCountedFile (remove_command stretches input output)
remove-stay stretches input output =
    one_writes (remove_task stretches input) output (λ files. left-stay stretches (files input))

-- ---- all commands

-- a command that sends a text writes no file
none-written : (outputs : List Output) → AreNamed [] outputs → AllOutputs IsCountedFile outputs
none-written [] named = tt
none-written (output ∷ outputs) named = absurd named

-- each command writes files of laid frames behind an Info frame that gives their numbers
pub files-counted : WrittenFilesAreCounted
files-counted Help moved some = absurd (omega (arith, some))
files-counted Version moved some = absurd (omega (arith, some))
files-counted (Drill seed count) moved some = absurd (omega (arith, some))
files-counted (ListFile input) moved some =
    λ files made e. none-written made.outputs (text-named _ (files input) made e)
files-counted (InfoFile input) moved some =
    λ files made e. none-written made.outputs (text-named _ (files input) made e)
files-counted (Gain shift tags input output) moved some = absurd cc
files-counted (Undo input output) moved some = absurd cc
files-counted (Fade back input output sheet) moved some = absurd cc
files-counted (Cut from to least input output) moved some = cut-stay from to least input output
files-counted (CutExact input from to output) moved some = exact-stay input from to output
files-counted (Pack mode input output) moved some = pack-stay mode input output
files-counted (SplitAt input prefix places) moved some =
    split-stays (given_cutting places) prefix range-stays input
files-counted (SplitExact input prefix places) moved some =
    split-stays (given_exact_cutting places) prefix samples-stay input
files-counted (SplitBy false input prefix sheet) moved some =
    split-stays (sheet_cutting sheet) prefix range-stays input
files-counted (SplitBy true input prefix sheet) moved some =
    split-stays (sheet_exact_cutting sheet) prefix samples-stay input
files-counted (Join false output inputs) moved some =
    join-stay output inputs (subst (λ names. 1 ≤ length names) (append-nil inputs) some)
files-counted (Join true output inputs) moved some =
    seamless-stay output inputs (subst (λ names. 1 ≤ length names) (append-nil inputs) some)
files-counted (Remove input output stretches) moved some = remove-stay stretches input output
files-counted (Salvage input output) moved some = salvage-stay input output

-- ---- what holds of such files

module _ {P : List ℕ → Type 0} (each : (bytes : List ℕ) → IsCountedFile bytes → P bytes) where
  all-outputs : (outputs : List Output) → AllOutputs IsCountedFile outputs → AllOutputs P outputs
  all-outputs [] all = tt
  all-outputs (output ∷ outputs) all = (each output.bytes all.0, all-outputs outputs all.1)

  all-made : (command : Command) → WritesOnly IsCountedFile command → WritesOnly P command
  all-made command writes files made e = all-outputs made.outputs (writes files made e)

  -- what holds of all such files holds of all files that the commands write
  pub all-written : AllWritten P
  all-written asked moved some = all-made (command_of asked) (files-counted asked moved some)

counted-loses-none : {bytes : List ℕ} → IsCountedFile bytes → LosesNoFrame bytes
counted-loses-none is =
    subst LosesNoFrame (sym is.is)
    (laid-frames-stay is.class is.front is.first is.info is.frames is.back is.laid)

-- no frame of a written file is lost
pub frames-stay : WrittenFramesStay
frames-stay = all-written (λ bytes. counted-loses-none {bytes = bytes})
