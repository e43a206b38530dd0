-- What a seamless join leaves, given its steps.
use Rattle.std.proofs.Common.{ap, append-nil, ap₂, arith, drop, length, List, map, None, Ok, Option}
use Rattle.std.proofs.Common.{refl, Result, Some, subst, sym, unwrap_or, vec_items, ℕ, [], ◌++◌}
use Rattle.std.proofs.{Common.{◌+◌, ◌-◌, ◌<◌, ◌∙◌, ◌∷◌, ◌≡◌, ◌≤◌}, lemmas.List.length-map}
use Rattle.std.{proofs.lemmas.{Result.IfErr-weaker, Slice.Zip.AllZip-long}, specs.List.concat}
use Rattle.std.specs.Prelude.{flat_map, IfErr}
use Rattle.commands.proofs.{MakeLemmas.{one_run, one_streams}, TellingLemmas.telling_command-text}
use Rattle.commands.specs.AfterCall.{IsLateFault, IsNotBefore}
use Rattle.commands.specs.{Command.{AreSoundFiles, clash_from}, Refusing.then_made, Runs.IsRunOf}
use Rattle.commands.specs.SentText.{IsCommandText}
use Rattle.commands.specs.SingleOutput.{clash_in, first_input, IsEarlyFault, IsMaking, most_frames}
use Rattle.commands.specs.SingleOutput.{NeedsMemory, one_command, WritesOutput}
use Rattle.commands.specs.declared.fault.EditFault.{EditFault}
use Rattle.cut_edits.proofs.HeadLemmas.{survey_without_head-had, survey_without_head-length}
use Rattle.cut_edits.{proofs.HeadLemmas.survey_without_head-placed, specs.Exact.survey_without_head}
use Rattle.frame_header.specs.Fields.{ClassFields}
use Rattle.frame_writer.specs.Frames.{bytes_of_frames}
use Rattle.joined_inputs.proofs.InputLemmas.{alike-first, found-input, join-late, named-long}
use Rattle.joined_inputs.proofs.InputLemmas.{parts-all}
use Rattle.joined_inputs.proofs.SourceLemmas.{inputs-hold, inputs-making, join-numbers}
use Rattle.joined_inputs.proofs.SourceLemmas.{sources-inputs}
use Rattle.joined_inputs.specs.Inputs.{AreInputsOfClass, AreJoinInputs, CanInputsBeJoined}
use Rattle.joined_inputs.specs.Inputs.{class_of_first, frames_together, HasJoinNumbers, input_names}
use Rattle.joined_inputs.specs.Inputs.{input_view, InputFields, part_in, parts_of}
use Rattle.joined_inputs.specs.{Laying.{AreSources, CanJoinBeWritten, join_bytes}, Parts.join_parts}
use Rattle.laying.proofs.{NeedsFitLemmas.rows-alone, SurveyFrameLemmas.survey-had}
use Rattle.laying.specs.{Relaid.{FilePart, part_frames, relaid_frames}, Surveys.CanBeRelaid}
use Rattle.laying.specs.Written.{front_blocks}
use Rattle.outside.{proofs.FilesLemmas.there_holds, specs.Counts.NoneFell}
use Rattle.outside.specs.{Files.{Contents, Files, Holds, IfTold, Told, Untold}, Seen.Seen}
use Rattle.seam_plan.specs.{Seams.left_out_count, declared.splice.Joint.Joint}
use Rattle.seamless_edits.proofs.ReadFaultLemmas.{fault-later, read-early}
use Rattle.seamless_edits.proofs.SeamlessLemmas.{AllOf, AreHeads, seamless-written, text-same}
use Rattle.seamless_edits.proofs.{SeamlessLemmas.whole_parts, SpliceFileLemmas.files-hold}
use Rattle.seamless_edits.specs.Beginnings.{AreBeginnings, input_without_head, IsBeginning}
use Rattle.seamless_edits.specs.Deciding.{broughts_in, CanBeDecided, FitAlone, FitsAlone}
use Rattle.seamless_edits.specs.{Deciding.{from_places, IsJoinedOf, left_out_of}, Lines.told_lines}
use Rattle.seamless_edits.specs.{LostFrames.lost_in_input, Reading.{AreHeld, IsInputReadFault}}
use Rattle.seamless_edits.specs.Seamless.{seamless_command, seamless_file, seamless_stream}
use Rattle.seamless_edits.specs.Seamless.{seamless_task, seamless_text, seamless_text_or_none}
use Rattle.seamless_edits.specs.SeamlessReady.{IsSeamlessReady, IsSpliceMade}
use Rattle.seamless_edits.specs.declared.beginnings.Beginning.{Beginning}
use Rattle.seamless_edits.specs.declared.seamless_file.{MadeSplice.MadeSplice, Ready.Ready}
use Rattle.slot_plan.specs.Plans.{entries}
use Rattle.sync_survey.proofs.{ApartLemmas.placed-apart, EmptiedLemmas.{apart-laid, placed-emptied}}
use Rattle.sync_survey.specs.Faults.{HoldsStream, longest_file, SurveyFields}
use Rattle.sync_survey.specs.Survey.{IsSurveyLaidOut}

-- ---- inputs whose heads are set apart

apart-exact : (files : Files) (name : List ℕ) (s : SurveyFields) → IsSurveyLaidOut s
    → ((file : List ℕ) → Holds files name file → CanBeRelaid file s) → (file : List ℕ)
    → Holds files name file → CanBeRelaid file (survey_without_head s)
apart-exact files name s laid exact file holds =
    survey_without_head-had (exact file holds) (survey_without_head-placed s laid.placed)

-- inputs that can be read can be read when their heads are set apart
held-apart : (files : Files) (inputs : List InputFields) → AreHeld files inputs
    → AreHeld files (map input_without_head inputs)
held-apart files [] are = tt
held-apart files (i ∷ inputs) are = (
  record {
    there = are.0.there;
    exact = apart-exact files i.name i.survey are.0.laid are.0.exact;
    laid = apart-laid i.survey are.0.laid;
  },
  held-apart files inputs are.1,
)

-- sources are sources when their heads are set apart, from whatever frame on
sources-apart : (class : ClassFields) (output : List ℕ) (files : Files) (inputs : List InputFields)
    (froms : List ℕ) → AreSources class output files inputs
    → AreSources class output files (from_places (map input_without_head inputs) froms)
sources-apart class output files [] froms are = tt
sources-apart class output files (i ∷ inputs) [] are = tt
sources-apart class output files (i ∷ inputs) (from ∷ froms) are = (
  (
    record {
      apart = are.0.0.apart;
      there = are.0.0.there;
      exact = apart-exact files i.name i.survey are.0.0.laid are.0.0.exact;
      laid = apart-laid i.survey are.0.0.laid;
    },
    are.0.1,
  ),
  sources-apart class output files inputs froms are.1,
)

-- the inputs are there, with their surveys as they were found
pub inputs-known : (first : Option ClassFields) (allowed : ℕ) (files : Files)
    (inputs : List InputFields) → AreJoinInputs first allowed files inputs → AreHeld files inputs
inputs-known first allowed files [] are = tt
inputs-known first allowed files (i ∷ inputs) are = (
  record {
    there = are.0.there;
    exact = λ file holds. survey-had allowed (are.0.exact file holds);
    laid = are.0.laid;
  },
  inputs-known (Some (unwrap_or first i.survey.class)) (allowed - length i.survey.frames) files
      inputs are.3,
)

alike-apart : (class : ClassFields) (inputs : List InputFields)
    → AreInputsOfClass class inputs → AreInputsOfClass class (map input_without_head inputs)
alike-apart class [] are = tt
alike-apart class (i ∷ inputs) are =
    grind (arith, survey_without_head-length, apart-laid, alike-apart class inputs are.3)

frames-apart : (inputs : List InputFields)
    → frames_together (map input_without_head inputs) ≡ frames_together inputs
unfolding frames_together
frames-apart [] = refl
frames-apart (i ∷ inputs) =
    ap₂ (λ m n. m + n) (survey_without_head-length i.survey) (frames-apart inputs)

class-apart : (inputs : List InputFields)
    → class_of_first (map input_without_head inputs) ≡ class_of_first inputs
class-apart inputs = grind arith

-- inputs that can be joined can be joined when their heads are set apart
pub join-apart : {inputs : List InputFields} → CanInputsBeJoined inputs
    → CanInputsBeJoined (map input_without_head inputs)
join-apart {inputs} can = record {
  class = can.class;
  first = class-apart inputs ∙ can.first;
  alike = alike-apart can.class inputs can.alike;
  few = omega (arith, length-map inputs input_without_head, can.few);
  frames = omega (arith, frames-apart inputs, can.frames);
}

alone-apart : {s : SurveyFields} → IsSurveyLaidOut s → FitsAlone (survey_without_head s)
alone-apart {s} laid =
    let none = placed-apart s.head laid.placed in
    rows-alone
    (placed-emptied None none)

all-alone : (class : ClassFields) (inputs : List InputFields) → AreInputsOfClass class inputs
    → FitAlone (map input_without_head inputs)
all-alone class [] are = tt
all-alone class (i ∷ inputs) are = (alone-apart are.1, all-alone class inputs are.3)

-- there are as many beginnings as inputs
begun-long : (files : Files) (inputs : List InputFields) (bs : List Beginning)
    → AreBeginnings files inputs bs → length bs ≡ length inputs
begun-long files inputs bs are = AllZip-long (IsBeginning files) inputs bs are

-- it can be decided what becomes of inputs whose heads are set apart
pub apart-decided : {files : Files} {inputs : List InputFields} {bs : List Beginning}
    → AreJoinInputs None most_frames files inputs → CanInputsBeJoined inputs
    → AreBeginnings files inputs bs → CanBeDecided files (map input_without_head inputs) bs
apart-decided {files} {inputs} {bs} are can begun = record {
  joined = join-apart can;
  known = held-apart files inputs (inputs-known None most_frames files inputs are);
  fit = all-alone can.class inputs can.alike;
  begun = begun-long files inputs bs begun ∙ sym (length-map inputs input_without_head);
}

-- how the inputs begin, where the contents of the files are known
heads-told : (first : Option ClassFields) (allowed : ℕ) (f : Contents) (inputs : List InputFields)
    (bs : List Beginning) → AreJoinInputs first allowed (Told f) inputs
    → AreBeginnings (Told f) inputs bs → AreHeads f inputs bs
heads-told first allowed f [] [] are begun = tt
heads-told first allowed f (i ∷ inputs) (b ∷ bs) are begun =
    let held = there_holds f are.0.there in
    let file : unwrap_or (f i.name) [] ≡ held.0 =
    ap (λ (o : Option (List ℕ)). unwrap_or o []) held.1 in (
      (begun.0.head (unwrap_or (f i.name) []) (held.1 ∙ ap Some (sym file)), begun.0.blank),
      heads-told _ (allowed - length i.survey.frames) f inputs bs are.3 begun.1,
    )
heads-told first allowed f [] (b ∷ bs) are begun = absurd begun
heads-told first allowed f (i ∷ inputs) [] are begun = absurd begun

-- ---- what is made of the inputs

-- the frames of the decided splice can be written
pub made-written : {output : List ℕ} {files : Files} (inputs : List InputFields)
    {bs : List Beginning} {made : MadeSplice}
    → clash_from (output ∷ []) 0 (input_names inputs) ≡ None
    → AreJoinInputs None most_frames files inputs
    → CanInputsBeJoined inputs → IsSpliceMade files (map input_without_head inputs) bs made
    → CanJoinBeWritten output files
    (from_places (map input_without_head inputs) (left_out_of made.decided)) made.work
made-written [] free are can is = let first = can.first in absurd cc
made-written {output} {files} (i ∷ inputs) {made = made} free are can is =
    let class = can.class in
    let first = can.first in
    record {
      class = class;
      first = first;
      sources = sources-apart class output files (i ∷ inputs) (left_out_of made.decided)
          (sources-inputs class output 0 None most_frames files (i ∷ inputs) free can.alike are);
      fits = grind arith;
    }

-- all inputs are of one class
all-of : (class : ClassFields) (inputs : List InputFields) → AreInputsOfClass class inputs
    → AllOf class inputs
all-of class [] are = tt
all-of class (i ∷ inputs) are = (are.2, all-of class inputs are.3)

-- as all frames of the inputs are written, they are the parts
parts-whole-in : (first : Option ClassFields) (allowed : ℕ) (f : Contents)
    (inputs : List InputFields) → AreJoinInputs first allowed (Told f) inputs
    → map (part_in f) inputs ≡ whole_parts f inputs
parts-whole-in first allowed f [] are = refl
parts-whole-in first allowed f (i ∷ inputs) are =
    grind (
      arith,
      are.2,
      parts-whole-in (Some (unwrap_or first i.survey.class))
          (allowed - length i.survey.frames) f inputs are.3,
    )

module _ {f : Contents} {i : InputFields} {inputs : List InputFields} {b : Beginning}
    {bs : List Beginning} {made : MadeSplice}
    (are : AreJoinInputs None most_frames (Told f) (i ∷ inputs))
    (can : CanInputsBeJoined (i ∷ inputs))
    (begun : AreBeginnings (Told f) (i ∷ inputs) (b ∷ bs))
    (is : IsSpliceMade (Told f) (map input_without_head (i ∷ inputs)) (b ∷ bs) made) where
  abbrev s : SurveyFields
  s = i.survey

  heads : AreHeads f (i ∷ inputs) (b ∷ bs)
  heads = heads-told None most_frames f (i ∷ inputs) (b ∷ bs) are begun

  of : AllOf s.class (i ∷ inputs)
  of = all-of s.class (i ∷ inputs) (alike-first can)

  class-same : is.decided.splice.class ≡ s.class
  class-same = let first = is.decided.splice.class_is in cc

  decided : IsJoinedOf
      s.class (broughts_in f (map input_without_head (i ∷ inputs)) (b ∷ bs)) made.decided
  decided = grind (arith, class-same)

  -- the bytes that are written are the file
  pub made-file : {bytes : List ℕ} → f i.name ≡ Some bytes → join_bytes (Told f)
      (from_places (map input_without_head (i ∷ inputs)) (left_out_of made.decided))
      made.work bytes ≡ seamless_file (whole_parts f (i ∷ inputs))
  made-file {bytes} held =
      let file : unwrap_or (f i.name) [] ≡ bytes = grind (arith, unwrap_or) in
      let within : made.decided.front < length s.frames =
      omega
      (arith, is.decided.splice.behind (input_without_head i) refl, survey_without_head-length s) in
      let left =
      from_places (map input_without_head (i ∷ inputs)) (left_out_of made.decided) in
      ap (λ (l : List ℕ). (concat (front_blocks l s) ++ made.work.info.items)
      ++ bytes_of_frames (relaid_frames (flat_map part_frames (map (part_in f) left))
      (entries made.work.plan))) (sym file)
      ∙ seamless-written f i inputs bs heads of
      decided is.splice.plan is.splice.fits.fits is.splice.info within

  -- the lines that are sent are the text
  pub made-text : (names : List (List ℕ)) → told_lines (drop 1 names) made.decided.joints.items
      (drop 1 (map lost_in_input (i ∷ inputs)))
      ≡ seamless_text names (whole_parts f (i ∷ inputs))
  made-text names = grind (arith, text-same, heads, of, decided)

-- ---- what was prepared

-- the names stay
names-from : (inputs : List InputFields) (froms : List ℕ) → length froms ≡ length inputs
    → input_names (from_places (map input_without_head inputs) froms) ≡ input_names inputs
names-from [] [] long = refl
names-from [] (n ∷ froms) long = absurd (omega (arith, long))
names-from (i ∷ inputs) [] long = absurd (omega (arith, long))
names-from (i ∷ inputs) (n ∷ froms) long =
    ap (λ l. i.name ∷ l) (names-from inputs froms (omega (arith, long)))

-- names stay when heads are set apart
pub apart-names : (inputs : List InputFields)
    → input_names (map input_without_head inputs) ≡ input_names inputs
apart-names [] = refl
apart-names (i ∷ inputs) = ap (λ l. i.name ∷ l) (apart-names inputs)

module _ {names : List (List ℕ)} {files : Files} {ready : Ready}
    (is : IsSeamlessReady names files ready) where
  -- the prepared inputs have these names
  pub ready-names : input_names (map input_view ready.inputs.items) ≡ names
  ready-names = rw is.inputs (apart-names is.found ∙ is.named)

  -- the inputs without the frames that are left out
  abbrev pub left_inputs : List InputFields
  left_inputs = from_places (map input_view ready.inputs.items) (left_out_of ready.made.decided)

  many : length is.found ≡ length names
  many = named-long is.found is.named

  -- there is one joint fewer than inputs
  pub joints-many : length ready.made.decided.joints.items + 1 ≡ length names
  joints-many =
      omega (arith, is.made.decided.splice.many, length-map is.found input_without_head, many)

  -- the inputs have the same names
  pub left-names : input_names left_inputs ≡ names
  left-names = rw is.inputs
      (names-from is.found (left_out_of ready.made.decided)
      (omega (
        arith,
        joints-many,
        many,
        length-map ready.made.decided.joints.items
            (λ (j : Joint). left_out_count j.seam),
      )) ∙ is.named)

  -- what was prepared can be written
  pub ready-writable : {output : List ℕ} → clash_from (output ∷ []) 0 names ≡ None
      → CanJoinBeWritten output files left_inputs ready.made.work
  ready-writable {output} free = rw is.inputs
      (made-written is.found (rw is.named free) is.are is.joined
      is.made)

  abbrev pub made_of : List ℕ → List ℕ
  made_of = join_bytes files left_inputs ready.made.work

module _ {names : List (List ℕ)} (some : 1 ≤ length names) where
  -- what was prepared makes what the task makes
  pub ready-making : {files : Files} {ready : Ready} (is : IsSeamlessReady names files ready)
      → IsMaking (seamless_task names) (made_of is) files
  ready-making {files} {ready} is =
      rw is.inputs (subst (λ ns. IsMaking (seamless_task ns) (join_bytes files
      (from_places (map input_without_head is.found) (left_out_of ready.made.decided))
      ready.made.work) files) is.named
      (inputs-making seamless_file seamless_stream files is.found
      (omega (arith, many is, some)) is.are
      (at files is.found is.bs is.are is.joined is.begun is.made)))
    where
      at : (fs : Files) (inputs : List InputFields) (bs : List Beginning)
          → AreJoinInputs None most_frames fs inputs → CanInputsBeJoined inputs
          → AreBeginnings fs inputs bs
          → IsSpliceMade fs (map input_without_head inputs) bs ready.made → (bytes : List ℕ)
          → Holds fs (first_input (input_names inputs)) bytes → join_bytes fs
          (from_places (map input_without_head inputs) (left_out_of ready.made.decided))
          ready.made.work bytes ≡ seamless_file (parts_of fs inputs)
      at fs [] bs are can begun made bytes held = let first = can.first in absurd cc
      at fs (i ∷ inputs) [] are can begun made bytes held = absurd begun
      at (Untold touched) (i ∷ inputs) (b ∷ bs) are can begun made bytes held = absurd held
      at (Told f) (i ∷ inputs) (b ∷ bs) are can begun made bytes held =
          made-file are can begun made held
          ∙ ap seamless_file (sym (parts-whole-in None most_frames f (i ∷ inputs) are))

  -- the file of the parts holds the stream of the splice
  pub ready-holds : {files : Files} {ready : Ready} (is : IsSeamlessReady names files ready)
      → IfTold files (λ f. (bytes : List ℕ) → f (first_input names) ≡ Some bytes
      → AreSoundFiles f names × HoldsStream (seamless_file (parts_of files is.found))
      ((seamless_task names).stream f))
  ready-holds {files} is =
      subst (λ (ns : List (List ℕ)). IfTold files (λ f. (bytes : List ℕ)
      → f (first_input ns) ≡ Some bytes → AreSoundFiles f ns
      × HoldsStream (seamless_file (parts_of files is.found)) ((seamless_task ns).stream f)))
      is.named
      (inputs-hold seamless_file seamless_stream files is.found is.are
      (at files is.found (omega (arith, named-long is.found is.named, some)) is.are))
    where
      at : (fs : Files) (inputs : List InputFields) → 1 ≤ length inputs
          → AreJoinInputs None most_frames fs inputs → IfTold fs
          (λ f. HoldsStream (seamless_file (parts_of fs inputs))
          (seamless_stream (parts_of fs inputs)))
      at (Untold touched) inputs some are = tt
      at (Told f) inputs some are =
          files-hold f (input_names inputs)
          (omega (arith, length-map inputs (λ (i : InputFields). i.name), some))
          (parts-all 0 None most_frames f inputs are)

  -- the text of the command is the text of what was decided
  pub ready-text : {files : Files} {ready : Ready} (output : List ℕ) {all : List ℕ}
      → IsSeamlessReady names files ready → IsCommandText (seamless_command output names) files all
      → told_lines (drop 1 names) ready.made.decided.joints.items
      (drop 1 (map vec_items ready.lost.items)) ≡ all
  ready-text {files} {ready} output {all} is text =
      let told = telling_command-text (λ f. seamless_text_or_none names (join_parts f names))
      (one_command (seamless_task names) output) text in
      ap (λ (l : List (List ℕ)). told_lines (drop 1 names) ready.made.decided.joints.items
      (drop 1 l)) is.lost
      ∙ at files told.1 is.found is.bs (omega (arith, many is, some)) is.named
      is.are is.joined is.begun is.made ∙ sym told.2
    where
      told-same : (f g : Contents) → Told f ≡ Told g → f ≡ g
      told-same f g e = cc

      at : (fs : Files) {f : Contents} → fs ≡ Told f → (inputs : List InputFields)
          (bs : List Beginning) → 1 ≤ length inputs → input_names inputs ≡ names
          → AreJoinInputs None most_frames fs inputs
          → CanInputsBeJoined inputs → AreBeginnings fs inputs bs
          → IsSpliceMade fs (map input_without_head inputs) bs ready.made
          → told_lines (drop 1 names) ready.made.decided.joints.items
          (drop 1 (map lost_in_input inputs))
          ≡ seamless_text_or_none names (join_parts f names)
      at (Untold touched) e inputs bs some named are can begun made = absurd cc
      at (Told g) e [] bs some named are can begun made = absurd (omega (arith, some))
      at (Told g) e (i ∷ inputs) [] some named are can begun made = absurd begun
      at (Told g) {f} e (i ∷ inputs) (b ∷ bs) some named are can begun made =
          let all : join_parts g names ≡ Ok (whole_parts g (i ∷ inputs)) =
          rw (← named) (parts-all 0 None most_frames g (i ∷ inputs) are
          ∙ ap Ok (parts-whole-in None most_frames g (i ∷ inputs) are)) in
          made-text are can begun made names
          ∙ sym (ap (seamless_text_or_none names) all)
          ∙ ap (λ (h : Contents). seamless_text_or_none names (join_parts h names))
          (told-same g f e)

-- ---- what is left

module _ (names : List (List ℕ)) where
  -- running out of memory after the survey is an early fault, since the first input is there
  pub memory-early : {old new : Seen} (inputs : List InputFields) → input_names inputs ≡ names
      → 1 ≤ length inputs → AreJoinInputs None most_frames old.files inputs → new ≡ old
      → NeedsMemory (first_input names) old new
  memory-early {old} {new} inputs named some are stays = rw (append-nil, named) at
      (found-input most_frames inputs [] are some stays)

  -- a fault of reading the inputs after the survey is an early fault
  pub read-fault-early : {old mid : Seen} (new : Seen) (inputs : List InputFields)
      (fault : EditFault) → input_names inputs ≡ names → 1 ≤ length inputs
      → AreJoinInputs None most_frames old.files inputs → mid ≡ old
      → IsInputReadFault names mid new fault → IsEarlyFault (seamless_task names) old new fault
  read-fault-early {old} {mid} new inputs fault named some are same is =
      read-early (seamless_task names) fault (memory-early inputs named some are)
      (before old.files are) (fault-later names new fault same is)
    where
      before : (files : Files) → AreJoinInputs None most_frames files inputs
          → IfTold files (λ f. IfErr ((seamless_task names).makes f) (IsNotBefore fault))
      before (Untold touched) are = tt
      before (Told f) are =
          subst (λ (r : Result (List FilePart) EditFault).
          IfErr (then_made r (λ parts. Ok (seamless_file parts))) (IsNotBefore fault))
          (sym (rw named at (parts-all 0 None most_frames f inputs are))) tt

  -- if the first input is there and not too long, only a late fault refuses the join
  pub seamless-late : (f : Contents) {bytes : List ℕ} → f (first_input names) ≡ Some bytes
      → length bytes ≤ longest_file → IfErr ((seamless_task names).makes f) IsLateFault
  seamless-late f {bytes} held few = join-late seamless_file names f bytes held few

-- ---- runs of the command

-- the text of the command
abbrev pub text_of : List (List ℕ) → Contents → List ℕ
text_of names f = seamless_text_or_none names (join_parts f names)

module _ {output : List ℕ} {names : List (List ℕ)} (free : clash_in (seamless_task names) output
    ≡ None) (some : 1 ≤ length names) {old new : Seen} {r : Result (Unit {0}) EditFault} where
  -- a call that wrote the splice, or a part of it, is a run of the command without a text
  pub written-run : {ready : Ready} (is : IsSeamlessReady names old.files ready)
      → IfErr r (HasJoinNumbers (length names))
      → WritesOutput (made_of is) names output old new r
      → NoneFell old.counts new.counts
      → IsRunOf (one_command (seamless_task names) output) old new r
  written-run {ready} is numbers wrote fell =
      let task = seamless_task names in
      one_run task output free
      (ready-making some is) refl
      (one_streams task output free (λ _. seamless_file (parts_of old.files is.found)) old.files
      (subst (λ (ns : List (List ℕ)). IsMaking (seamless_task ns)
      (λ _. seamless_file (parts_of old.files is.found)) old.files) is.named
      (inputs-making seamless_file seamless_stream old.files is.found
      (omega (arith, named-long is.found is.named, some)) is.are (λ _ _. refl)))
      (ready-holds some is) r)
      (IfErr-weaker r _ _
      (λ fault. join-numbers seamless_file seamless_stream output names fault refl) numbers)
      wrote fell
