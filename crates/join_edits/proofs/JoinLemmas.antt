-- The file of all frames of the inputs, and what is written of it.
use Rattle.std.proofs.Common.{ap, append-nil, append_assoc, ap₂, arith, length, List, map, None}
use Rattle.std.proofs.Common.{Option, refl, Some, sym, ℕ, [], ◌++◌, ◌-◌, ◌∙◌, ◌∷◌, ◌≡◌, ◌≤◌}
use Rattle.std.{proofs.lemmas.List.{length-map, FromFn.length-range_with_len}, specs.List.concat}
use Rattle.std.specs.Prelude.{flat_map, slice_get, unwrap_or}
use Rattle.commands.specs.Command.{AreSoundFiles, clash_from}
use Rattle.commands.specs.SingleOutput.{first_input, IsMaking, most_frames}
use Rattle.frame_header.specs.{Fields.ClassFields, Tables.window_of}
use Rattle.frame_writer.specs.Frames.{bytes_of_frames}
use Rattle.info_header.specs.InfoFrame.{info_frame}
use Rattle.join_edits.proofs.{BehindLemmas.{rows-whole, within-whole}, PlanLemmas.the-plan}
use Rattle.join_edits.specs.Join.{join_task, joined_file, joined_frames, joined_plan}
use Rattle.join_edits.specs.Join.{joined_row_file, joined_stream}
use Rattle.join_edits.specs.JoinReady.{IsJoinedInfo, IsJoinReady, least_plan_of}
use Rattle.joined_inputs.proofs.InputLemmas.{alike-first}
use Rattle.joined_inputs.proofs.SourceLemmas.{inputs-hold, inputs-making, source-holds}
use Rattle.joined_inputs.proofs.SourceLemmas.{sources-inputs}
use Rattle.joined_inputs.specs.Inputs.{AreInputsOfClass, AreJoinInputs, CanInputsBeJoined}
use Rattle.joined_inputs.specs.Inputs.{input_names, InputFields, part_in, parts_of, survey_rows}
use Rattle.joined_inputs.specs.Laying.{AreSources, CanJoinBeWritten, join_bytes}
use Rattle.joined_inputs.specs.declared.work.JoinWork.{JoinWork}
use Rattle.laying.proofs.{FittingFrameLemmas.{files-hold, slots-planned}, HoldLemmas.blocks-kept}
use Rattle.laying.proofs.{LaidLemmas.first-there, PlacesLemmas.range-whole}
use Rattle.laying.specs.{LaidFiles.{HasInfoSizes, laid_file}, Needs.need_of, NeedsFit.own_choice}
use Rattle.laying.specs.Relaid.{AreParts, AreSlots, FilePart, part_frames, part_needs}
use Rattle.laying.specs.{Relaid.relaid_frames, Written.{front_blocks, plain_info, slot_in}}
use Rattle.outside.proofs.FilesLemmas.{there_holds}
use Rattle.outside.specs.Files.{Contents, Files, Holds, IfTold, Told, Untold}
use Rattle.slot_plan.{proofs.AreaLemmas.only_one, specs.Plans.{entries, IsPlan}}
use Rattle.slot_plan.specs.declared.needs.Placed.{Placed}
use Rattle.sync_survey.specs.{Faults.{HoldsStream, SurveyFields}, Row.Row}

-- ---- the inputs as parts

module _ (class : ClassFields) (output : List ℕ) (f : Contents) where
  sources-parts : (first : Option ClassFields) (allowed : ℕ) (inputs : List InputFields)
      → AreJoinInputs first allowed (Told f) inputs → AreInputsOfClass class inputs
      → AreSources class output (Told f) inputs → AreParts class (map (part_in f) inputs)
  sources-parts first allowed [] whole alike are = tt
  sources-parts first allowed (i ∷ inputs) whole alike are =
      let bytes = unwrap_or (f i.name) [] in
      let held = there_holds f are.0.0.there in (
        record {
          has = are.0.0.exact bytes
              (source-holds i.name held.0 held.1 are.0.0);
          class = are.0.1;
          some = omega (arith, whole.2, alike.0);
          within = omega arith;
        },
        sources-parts (Some (unwrap_or first i.survey.class)) (allowed - length i.survey.frames)
            inputs whole.3 alike.3 are.1,
      )

  parts-rows : (first : Option ClassFields) (allowed : ℕ) (inputs : List InputFields)
      → AreJoinInputs first allowed (Told f) inputs
      → map part_needs (map (part_in f) inputs) ≡ map (map need_of) (survey_rows inputs)
  parts-rows first allowed [] whole = refl
  parts-rows first allowed (i ∷ inputs) whole =
      grind (
        arith,
        range-whole,
        parts-rows (Some (unwrap_or first i.survey.class))
            (allowed - length i.survey.frames) inputs whole.3,
      )

-- ---- the file

own_slots : AreSlots own_choice
own_slots h slot is has = rw (← (only_one has)) is.slot

module _ {output : List ℕ} {f : Contents} {i : InputFields} {later : List InputFields}
    (can : CanInputsBeJoined (i ∷ later))
    (whole : AreJoinInputs None most_frames (Told f) (i ∷ later))
    (are : AreSources i.survey.class output (Told f) (i ∷ later)) where
  abbrev parts : List FilePart
  parts = map (part_in f) (i ∷ later)

  abbrev s : SurveyFields
  s = i.survey

  alike : AreInputsOfClass s.class (i ∷ later)
  alike = alike-first can

  abbrev file : List ℕ
  file = unwrap_or (f i.name) []

  told-plan : joined_plan s.class parts ≡ least_plan_of (i ∷ later)
  unfolding least_plan_of
  told-plan = grind (arith, parts-rows s.class output f None most_frames (i ∷ later) whole)

  is-plan : IsPlan (window_of s.class.version) own_choice (map part_needs parts)
      (joined_plan s.class parts)
  is-plan = rw (parts-rows s.class output f None most_frames (i ∷ later) whole) (the-plan can)

  are-parts : AreParts s.class parts
  are-parts = sources-parts s.class output f None most_frames (i ∷ later) whole alike are

  -- the frames are in the slots of the plan
  told-slots : map slot_in (joined_frames s.class parts)
      ≡ map (λ (p : Placed). p.slot) (joined_plan s.class parts)
  told-slots =
      slots-planned s.class own_choice parts (joined_plan s.class parts) are-parts own_slots is-plan

  sizes : HasInfoSizes (plain_info s.class (joined_frames s.class parts))
  sizes = grind (arith, length-map, length-range_with_len)

  found : (first : Row) × (slice_get s.frames 0 ≡ Some first)
  found = first-there s.frames 0 alike.0

  joined-is : joined_file parts ≡ laid_file (front_blocks file s) found.0.header
      (plain_info s.class (joined_frames s.class parts)) (joined_frames s.class parts) []
  unfolding joined_file
  joined-is = ap (λ (o : Option Row). joined_row_file o (part_in f i) parts) found.1

  joined-holds : HoldsStream (joined_file parts) (joined_stream parts)
  unfolding joined_stream
  joined-holds =
      let row = alike.1.placed 0 found.0 found.1 in
      let has = are-parts.0.has in
      rw joined-is
      (files-hold s.class own_choice parts (joined_plan s.class parts)
      (omega arith) are-parts own_slots
      is-plan (front_blocks file s) found.0.header (plain_info s.class
      (joined_frames s.class parts)) [] (blocks-kept file s has).0 row.known row.class_is sizes tt)

  -- the blocks, the Info frame and all frames are the file
  joined-told : {placed : List Placed} {info : List ℕ} → placed ≡ least_plan_of (i ∷ later)
      → IsJoinedInfo (i ∷ later) placed info → (concat (front_blocks file s) ++ info)
      ++ bytes_of_frames (relaid_frames (flat_map part_frames parts) placed) ≡ joined_file parts
  unfolding laid_file
  joined-told {placed} {info} plan is =
      let same : placed ≡ joined_plan s.class parts = plan ∙ sym told-plan in
      let frames = joined_frames s.class parts in
      let front = concat (front_blocks file s) in
      let head : info ≡ info_frame found.0.header (plain_info s.class frames) = is frames
      (told-slots ∙ ap (map (λ (p : Placed). p.slot)) (sym same)) i refl found.0 found.1 in
      append_assoc front info (bytes_of_frames (relaid_frames (flat_map part_frames parts) placed))
      ∙ ap (λ (l : List Placed). front
      ++ (info ++ bytes_of_frames (relaid_frames (flat_map part_frames parts) l))) same
      ∙ ap₂ (λ (i b : List ℕ). front ++ (i ++ b)) head (sym (append-nil (bytes_of_frames frames)))
      ∙ sym joined-is

-- ---- what is written

-- the joined file can be written with the parts that the code prepared
pub ready-written : {output : List ℕ} {files : Files} {inputs : List InputFields} {work : JoinWork}
    → clash_from (output ∷ []) 0 (input_names inputs) ≡ None
    → AreJoinInputs None most_frames files inputs → IsJoinReady inputs work
    → CanJoinBeWritten output files inputs work
ready-written {files = files} {inputs = inputs} apart are ready =
    let within = within-whole None most_frames files inputs are in
    let same = rows-whole None most_frames files inputs are in
    grind (arith, sources-inputs, within, same)

-- the bytes that are written are the joined file
whole-is : (output : List ℕ) (files : Files) (inputs : List InputFields) {work : JoinWork}
    → 1 ≤ length inputs → clash_from (output ∷ []) 0 (input_names inputs) ≡ None
    → AreJoinInputs None most_frames files inputs → IsJoinReady inputs work
    → (file : List ℕ) → Holds files (first_input (input_names inputs)) file
    → join_bytes files inputs work file ≡ joined_file (parts_of files inputs)
whole-is output files [] some apart are ready file holds = grind arith
whole-is output (Untold touched) (i ∷ later) some apart are ready file holds = absurd holds
whole-is output (Told f) (i ∷ later) {work} some apart are ready file holds =
    let alike = alike-first ready.joined in
    let sources = sources-inputs i.survey.class output 0 None most_frames (Told f) (i ∷ later)
    apart alike are in
    let told = joined-told ready.joined are sources ready.plan.plan ready.info in
    let frames = relaid_frames (flat_map part_frames (map (part_in f) (i ∷ later)))
    (entries work.plan) in
    rw (← (ap (λ (o : Option (List ℕ)). unwrap_or o []) holds)) told

-- ---- the command, once all inputs have their surveys

-- the bytes that are written are what is made of the inputs
pub written-making : (output : List ℕ) {files : Files} {inputs : List InputFields}
    {work : JoinWork} → 1 ≤ length inputs → clash_from (output ∷ []) 0 (input_names inputs) ≡ None
    → AreJoinInputs None most_frames files inputs → IsJoinReady inputs work
    → IsMaking (join_task (input_names inputs)) (join_bytes files inputs work) files
written-making output {files} {inputs} {work} some apart are ready =
    inputs-making joined_file joined_stream files inputs some are
    (whole-is output files inputs some apart are ready)

-- the joined file of inputs that were read holds their stream
pub joined-hold : (output : List ℕ) (files : Files) {inputs : List InputFields}
    → clash_from (output ∷ []) 0 (input_names inputs) ≡ None → CanInputsBeJoined inputs
    → AreJoinInputs None most_frames files inputs → IfTold files
    (λ f. (bytes : List ℕ) → f (first_input (input_names inputs)) ≡ Some bytes
    → AreSoundFiles f (input_names inputs)
    × HoldsStream (joined_file (parts_of files inputs)) ((join_task (input_names inputs)).stream f))
joined-hold output files {inputs} apart can are =
    inputs-hold joined_file joined_stream files inputs are (at files inputs apart can are)
  where
    at : (fs : Files) (is : List InputFields) → clash_from (output ∷ []) 0 (input_names is) ≡ None
        → CanInputsBeJoined is → AreJoinInputs None most_frames fs is → IfTold fs
        (λ f. HoldsStream (joined_file (parts_of fs is)) (joined_stream (parts_of fs is)))
    at (Untold touched) is apart can are = tt
    at (Told f) [] apart can are = let first = can.first in absurd cc
    at (Told f) (i ∷ later) apart can are =
        joined-holds can are
        (sources-inputs i.survey.class output 0 None most_frames
        (Told f) (i ∷ later) apart (alike-first can) are)
