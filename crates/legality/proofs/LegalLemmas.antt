-- What is legal is accepted, and what is accepted is legal, command by command.
use Rattle.std.proofs.Common.{ap, append-nil, arith, Bool, Err, false, List, map, None, Ok, Option}
use Rattle.std.proofs.Common.{refl, Result, Some, subst, sym, true, ℕ, [], ◌++◌, ◌+◌, ◌↔◌, ◌∙◌, ◌∷◌}
use Rattle.std.proofs.{Common.{◌≡◌, ◌≤◌}, lemmas.List.Elements.All-cons}
use Rattle.command_table.specs.Choices.{ArePieceRanges, AreSamplePieces, IsLegalFade, IsLegalGain}
use Rattle.command_table.specs.Choices.{IsLegalPack, IsLegalRemoval, IsLegalUndo, IsRange}
use Rattle.command_table.specs.Choices.{IsSampleRange, IsSheetWith}
use Rattle.command_table.specs.Inputs.{AreInputs, AreNamesApart, FileInput, HoldsOfEachNext}
use Rattle.command_table.specs.{Inputs.input_frames, Table.{entry_of, outputs_of, sources_of}}
use Rattle.commands.proofs.MadeLemmas.{made-of, makes-parts, of-made, parts-make}
use Rattle.commands.proofs.{RefusingLemmas.then_ok, TellingLemmas.text-parts}
use Rattle.commands.specs.{Command.{clash_from, Made}, Refusing.then_made}
use Rattle.commands.specs.SingleOutput.{input_result, Making, most_frames, one_command, Task}
use Rattle.commands.specs.{WithText.with_text, declared.fault.EditFault.EditFault}
use Rattle.cue_sheet.specs.declared.place.Place.{Place}
use Rattle.cut_edits.proofs.ChosenLemmas.{laid-parts, laying-is}
use Rattle.cut_edits.proofs.PieceLemmas.{exact-is, piece-parts}
use Rattle.cut_edits.specs.Chosen.{all_choice, chosen_needs, cut_choice, cut_refuses, first_plan}
use Rattle.cut_edits.specs.Chosen.{first_planning, laying_making, laying_task, slot_choices}
use Rattle.cut_edits.specs.Exact.{exact_making, exact_refuses, exact_task}
use Rattle.drill.specs.Drilled.{drill_text}
use Rattle.exact_span.specs.declared.exact_place.ExactPlace.{ExactPlace}
use Rattle.exact_span.specs.declared.exact_place.ExactPlace.TheVariants.{Place as Position}
use Rattle.gain_edits.specs.Change.{change_making, change_task, changed_or_fault, Changing}
use Rattle.gain_edits.specs.{Fade.{fade_change, fade_task}, Gain.{gain_change, gain_refuses}}
use Rattle.gain_edits.specs.Undo.{file_undo_steps, undo_change, undo_refuses}
use Rattle.job_words.specs.Request.{Cut, CutExact, Drill, Fade, Gain, Help, InfoFile, Join}
use Rattle.job_words.specs.Request.{ListFile, Pack, Remove, Request, Salvage, SplitAt, SplitBy}
use Rattle.job_words.specs.Request.{SplitExact, Undo, Version}
use Rattle.join_edits.specs.Join.{join_task, joined_file}
use Rattle.joined_inputs.specs.Parts.{join_parts}
use Rattle.laying.specs.{KeptFields.fields_of_head, Relaid.FilePart}
use Rattle.legality.proofs.FadeLemmas.{fade-legal, legal-fade}
use Rattle.legality.proofs.GainLemmas.{gain-legal, legal-gain, legal-undo, undo-legal, with-parts}
use Rattle.legality.proofs.InputLemmas.{apart_no-clash, IsOne, no-clash_apart, one-survey}
use Rattle.legality.proofs.InputLemmas.{surveyed-one, whole-survey}
use Rattle.legality.proofs.JoinLemmas.{joined-parts, parts-joined}
use Rattle.legality.proofs.PackLemmas.{constant-legal, floor-legal, legal-constant, legal-floor}
use Rattle.legality.proofs.{PackLemmas.planned-made, RemoveLemmas.{legal-removed, removed-legal}}
use Rattle.legality.proofs.{SalvageLemmas.salvage-law, SampleLemmas.{range-span, span-range}}
use Rattle.legality.proofs.SplitLemmas.{cut-range, frames-right, FramesFollow, range-cut}
use Rattle.legality.proofs.SplitLemmas.{samples-right, split-law}
use Rattle.legality.specs.{Laws.{AcceptsFiles, LegalIsAccepted}, Legal.IsLegalFor}
use Rattle.list_edits.specs.{InfoText.info_text, Listing.listing}
use Rattle.list_edits.specs.TextCommand.{input_text, surveyed_text, text_command}
use Rattle.moved_gains.specs.Change.{file_with_change, FileChange}
use Rattle.outside.specs.Files.{Contents}
use Rattle.pack_edits.specs.Modes.{allowed_frames, limited_result, mode_planning, most_best}
use Rattle.pack_edits.specs.Modes.{pack_task, survey_fault_or}
use Rattle.program_texts.specs.Texts.{help_text, version_text}
use Rattle.remove_edits.specs.Removed.{remove_making, remove_task}
use Rattle.requests.specs.{Shifts.steps_of, declared.mode.PackMode.PackMode}
use Rattle.requests.specs.declared.mode.PackMode.TheVariants.{Best, Constant, Floor, Least}
use Rattle.seamless_edits.specs.Seamless.{seamless_file, seamless_task, seamless_text_or_none}
use Rattle.split_edits.proofs.PartsLemmas.{cue-parts, parts-cue}
use Rattle.split_edits.specs.Split.{cue_sheet_places, exact_places_result, sheet_cut_refuses}
use Rattle.split_edits.specs.Split.{sheet_exact_refuses}
use Rattle.sync_survey.specs.{Faults.SurveyFields, Survey.survey_of}
use Rattle.sync_survey.specs.declared.survey_fault.SurveyFault.{SurveyFault}

-- ---- nothing is read

no-names : (outputs : List (List ℕ)) → AreNamesApart [] outputs
no-names outputs = λ k d within. absurd (omega (arith, within))

-- ---- one input

few-one : {n most : ℕ} → n ≤ most → n + 0 ≤ most
few-one few = omega (arith, few)

-- a command that reads one stream is legal exactly if no input's name is
-- an output's, and the stream is an input that its choices are legal for
module _ (asked : Request) (files : Contents) {input : List ℕ}
    (reads : sources_of asked ≡ input ∷ []) where
  abbrev ChoiceOf : FileInput → Type 0
  ChoiceOf one = (entry_of asked).legal files (one ∷ [])

  abbrev IsOneOf : Type 0
  IsOneOf = IsOne ChoiceOf files input (entry_of asked).most

  abbrev AreApart : List (List ℕ) → Type 0
  AreApart sources = AreNamesApart (sources ++ (entry_of asked).others) (outputs_of asked)

  the-one : (inputs : List FileInput) → AreInputs files (input ∷ []) inputs
      → input_frames inputs ≤ (entry_of asked).most → (entry_of asked).legal files inputs → IsOneOf
  the-one inputs are few choices = grind arith

  one-legal : IsLegalFor asked files ↔ (AreApart (input ∷ []) × IsOneOf)
  one-legal = (
    (λ legal. (
      subst AreApart reads legal.names,
      the-one legal.inputs (subst (λ names. AreInputs files names legal.inputs) reads legal.are)
          legal.few legal.choices,
    )),
    (λ is. record {
      names = subst AreApart (sym reads) is.0;
      inputs = is.1.input ∷ [];
      are = subst (λ names. AreInputs files names (is.1.input ∷ [])) (sym reads) (is.1.is, tt);
      few = few-one is.1.few;
      choices = is.1.choice;
    }),
  )

-- ---- a text of one input

-- nothing is chosen
abbrev NoChoice : FileInput → Type 0
NoChoice input = Unit {0}

-- the text is sent exactly if the one input has no fault
module _ (text : List ℕ → SurveyFields → List ℕ) (files : Contents) (input : List ℕ) where
  text-one : (o : Option (List ℕ)) {made : Made} → files input ≡ o → input_text text o ≡ Ok made
      → IsOne NoChoice files input most_frames
  text-one None there e = absurd cc
  text-one (Some file) {made} there e = at (survey_of file most_frames) refl e
    where
      at : (r : Result SurveyFields SurveyFault) → survey_of file most_frames ≡ r
          → surveyed_text (text file) r ≡ Ok made → IsOne NoChoice files input most_frames
      at (Err fault) surveyed e = absurd cc
      at (Ok s) surveyed e = surveyed-one NoChoice there surveyed tt

  one-text : IsOne NoChoice files input most_frames → AcceptsFiles (text_command text input) files
  one-text one = (
    record { outputs = []; text = text one.input.bytes one.input.survey },
    ap (input_text text) one.is.there
        ∙ ap (surveyed_text (text one.input.bytes))
        (one-survey NoChoice one),
  )

  text-law : {Legal : Type 0}
      → Legal ↔ (AreNamesApart (input ∷ []) [] × IsOne NoChoice files input most_frames)
      → Legal ↔ AcceptsFiles (text_command text input) files
  text-law is = grind (arith, one-text, All-cons, no-names, text-one)

-- ---- a file of one input

-- a file is made
abbrev IsMade : Result (List ℕ) EditFault → Type 0
IsMade r = (bytes : List ℕ) × (r ≡ Ok bytes)

-- from a surveyed file one is made exactly if the choice is legal for it
abbrev IsMadeWhere : Making → (FileInput → Type 0) → Type 0
IsMadeWhere make Choice =
    (file : List ℕ) (s : SurveyFields) → survey_of file most_frames ≡ Ok s
    → Choice (record { bytes = file; survey = s }) ↔ IsMade (make file s)

one-made : (make : Making) (Choice : FileInput → Type 0) → IsMadeWhere make Choice
    → (files : Contents) (input : List ℕ)
    → IsOne Choice files input most_frames ↔ IsMade (input_result make (files input))
one-made make Choice where_made files input = (
  (λ one.
      let surveyed = one-survey Choice {files = files} {name = input} {most = most_frames} one in
      let made = (where_made one.input.bytes one.input.survey surveyed).0 one.choice in (
        made.0,
        of-made make files {name = input} {file = one.input.bytes} {s =
            one.input.survey} one.is.there surveyed ∙ made.1,
      )),
  (λ some.
      let made = made-of {make = make} {files = files} {name = input} {bytes = some.0} some.1 in
      surveyed-one Choice {files = files} {name = input} {file = made.file} {most =
      most_frames} {s = made.survey} made.there made.surveyed
      ((where_made made.file made.survey made.surveyed).1 (made.bytes, made.made))),
)

-- the command succeeds exactly with one input that the
-- choice is legal for, where no output is one of its inputs
module _ {files : Contents} {input : List ℕ} {others : List (List ℕ)} (output : List ℕ) {most : ℕ}
    {Choice : FileInput → Type 0} (task : Task) (names : task.inputs ≡ input ∷ others)
    (makes : IsOne Choice files input most ↔ IsMade (task.makes files)) where
  abbrev IsLegalOne : Type 0
  IsLegalOne = AreNamesApart (input ∷ others) (output ∷ []) × IsOne Choice files input most

  one-law : {Legal : Type 0} → Legal ↔ IsLegalOne
      → Legal ↔ AcceptsFiles (one_command task output) files
  one-law is = (
    (λ legal.
        let one = is.0 legal in
        let bytes = makes.0 one.1 in
        parts-make task output (ap (clash_from (output ∷ []) 0) names
        ∙ apart_no-clash (output ∷ []) (input ∷ others) 0 one.0) bytes.1),
    (λ done.
        let found = makes-parts task output done.1 in
        is.1 (
          no-clash_apart (output ∷ []) (input ∷ others) 0
              (sym (ap (clash_from (output ∷ []) 0) names) ∙ found.0),
          makes.1 (found.1, found.2),
        )),
  )

-- ---- changes

-- a file is made exactly if there is a change
changed-made : (change : Changing) (Choice : FileInput → Type 0)
    → ((file : List ℕ) (s : SurveyFields) → survey_of file most_frames ≡ Ok s
    → Choice (record { bytes = file; survey = s })
    ↔ ((made : FileChange) × (change file s ≡ Ok made)))
    → IsMadeWhere (change_making change) Choice
changed-made change Choice is file s surveyed = (
  (λ legal.
      let made = (is file s surveyed).0 legal in
      (file_with_change made.0 file s, ap (changed_or_fault file s) made.1)),
  (λ made. (is file s surveyed).1 (with-parts file s made.1)),
)

-- ---- pack

-- what is made of a file in a mode
abbrev making_in : PackMode → Making
making_in mode = laying_making all_choice (mode_planning mode)

abbrev LegalIn : PackMode → FileInput → Type 0
LegalIn mode i = IsLegalPack mode i.survey

pack-choice : (mode : PackMode) (file : List ℕ) {s : SurveyFields} {bytes : List ℕ}
    → survey_of file most_frames ≡ Ok s → making_in mode file s ≡ Ok bytes
    → LegalIn mode (record { bytes = file; survey = s })
pack-choice mode file surveyed e = grind (arith, constant-legal, floor-legal)

choice-pack : (mode : PackMode) (file : List ℕ) {s : SurveyFields}
    → survey_of file most_frames ≡ Ok s → LegalIn mode (record { bytes = file; survey = s })
    → (bytes : List ℕ) × (making_in mode file s ≡ Ok bytes)
choice-pack Least file {s} surveyed legal = planned-made file surveyed (mode_planning Least) refl
choice-pack Best file {s} surveyed legal = planned-made file surveyed (mode_planning Best) refl
choice-pack (Constant rate) file {s} surveyed legal = legal-constant file surveyed legal
choice-pack (Floor rate) file {s} surveyed legal = legal-floor file surveyed legal

-- the packing in the fewest bytes has a limit of its own
module _ (files : Contents) (input : List ℕ) where
  best-parts : (o : Option (List ℕ)) {bytes : List ℕ} → files input ≡ o
      → limited_result (Some most_best) o (input_result (making_in Best) o) ≡ Ok bytes
      → IsOne (LegalIn Best) files input most_best
  best-parts None there e = absurd cc
  best-parts (Some file) {bytes} there e = at (survey_of file most_best) refl e
    where
      at : (r : Result SurveyFields SurveyFault) → survey_of file most_best ≡ r
          → survey_fault_or r (input_result (making_in Best) (Some file)) ≡ Ok bytes
          → IsOne (LegalIn Best) files input most_best
      at (Err fault) surveyed e = absurd cc
      at (Ok s) surveyed e = surveyed-one (LegalIn Best) there surveyed tt

  parts-best : IsOne (LegalIn Best) files input most_best → (bytes : List ℕ) × (limited_result
      (Some most_best) (files input) (input_result (making_in Best) (files input)) ≡ Ok bytes)
  parts-best one =
      let file = one.input.bytes in
      let s = one.input.survey in
      let surveyed = one-survey (LegalIn Best) one in
      let freely = whole-survey (record {
        long = one.is.long;
        well_formed = one.is.well_formed;
        few = omega (arith, one.few);
      }) in
      let made = choice-pack Best file freely tt in (
        made.0,
        ap (λ o. limited_result (Some most_best) o (input_result (making_in Best) (files input)))
            one.is.there
            ∙ ap (λ r. survey_fault_or r (input_result (making_in Best) (files input))) surveyed
            ∙ of-made (making_in Best) files one.is.there freely
            ∙ made.1,
      )

  one-packed : (mode : PackMode) → IsOne (LegalIn mode) files input (allowed_frames mode)
      ↔ IsMade ((pack_task mode input).makes files)
  one-packed Best = (parts-best, (λ made. best-parts (files input) refl made.1))
  one-packed mode = one-made (making_in mode) (LegalIn mode) (λ file s surveyed. (
    choice-pack mode file surveyed,
    (λ made. pack-choice mode file surveyed made.1),
  )) files input

-- ---- split

abbrev found_at : {P : Type 0} → List P → Result (List P) EditFault
found_at places = Ok places

same-places : {P : Type 0} (places found : List P) → found_at places ≡ found_at found
    → places ≡ found
same-places places found e = cc

-- what holds of the starts of a sheet holds of the places that are read from it
module _ (Pieces : List Place → Type 0) (sheet : List ℕ) (files : Contents) where
  sheet-places : IsSheetWith Pieces sheet files → (places : List Place)
      × (cue_sheet_places (files sheet) ≡ Ok places) × Pieces places
  sheet-places is = grind (arith, parts-cue)

  places-sheet : (places : List Place) → cue_sheet_places (files sheet) ≡ Ok places
      → Pieces places → IsSheetWith Pieces sheet files
  places-sheet places e pieces = grind (arith, cue-parts)

abbrev exact_list : List Place → Result (List ExactPlace) EditFault
exact_list list = Ok (map Position list)

-- ---- join

module _ (seamless : Bool) (files : Contents) (output : List ℕ) (inputs : List (List ℕ)) where
  -- the inputs are parts, and none has the name of the output
  abbrev apart_from : List (List ℕ) → Type 0
  apart_from names = AreNamesApart names (output ∷ [])

  joined-of : IsLegalFor (Join seamless output inputs) files
      → (clash_from (output ∷ []) 0 inputs ≡ None)
      × (parts : List FilePart) × (join_parts files inputs ≡ Ok parts)
  joined-of legal =
      let names = subst apart_from (append-nil inputs) legal.names in
      let parts = joined-parts files inputs legal.inputs legal.are legal.few legal.choices in
      (apart_no-clash (output ∷ []) inputs 0 names, parts.0, parts.1)

  legal-of : clash_from (output ∷ []) 0 inputs ≡ None → (parts : List FilePart)
      → join_parts files inputs ≡ Ok parts → IsLegalFor (Join seamless output inputs) files
  legal-of free parts e =
      let are = parts-joined e in
      let names = no-clash_apart (output ∷ []) inputs 0 free in
      record {
        names = subst apart_from (sym (append-nil inputs)) names;
        inputs = are.inputs;
        are = are.are;
        few = are.few;
        choices = are.one;
      }

-- what is made of the inputs where none is refused
made-parts : {X : Type 0} (files : Contents) (inputs : List (List ℕ)) (file : List FilePart → X)
    (parts : List FilePart) → join_parts files inputs ≡ Ok parts
    → then_made (join_parts files inputs) (λ ps. Ok (file ps)) ≡ Ok (file parts)
made-parts files inputs file parts e = grind arith

-- ---- all commands

-- whatever is asked for is legal exactly if its command isn't refused
pub legal-is-accepted : LegalIsAccepted
legal-is-accepted Help files = (
  (λ legal. (record { outputs = []; text = help_text }, refl)),
  (λ made. grind (arith, no-names)),
)
legal-is-accepted Version files = (
  (λ legal. (record { outputs = []; text = version_text }, refl)),
  (λ made. grind (arith, no-names)),
)
legal-is-accepted (Drill seed count) files = (
  (λ legal. (record { outputs = []; text = drill_text seed count }, refl)),
  (λ made. grind (arith, no-names)),
)
legal-is-accepted (ListFile input) files =
    text-law (λ file. listing) files input (one-legal (ListFile input) files refl)
legal-is-accepted (InfoFile input) files =
    text-law (λ file s. info_text (fields_of_head file s.head) s) files input
    (one-legal (InfoFile input) files refl)
legal-is-accepted (Gain shift tags input output) files =
    let change = gain_change shift tags in
    let Choice = IsLegalGain shift tags in
    one-law output
    (change_task change (λ file. steps_of shift) (gain_refuses tags) input) refl
    (one-made (change_making change) Choice (changed-made change Choice (λ file s surveyed. (
      legal-gain shift file s tags,
      (λ made. gain-legal shift file s tags made.0 made.1),
    ))) files input)
    (one-legal (Gain shift tags input output) files refl)
legal-is-accepted (Undo input output) files =
    one-law output
    (change_task undo_change file_undo_steps undo_refuses input) refl
    (one-made (change_making undo_change) IsLegalUndo
    (changed-made undo_change IsLegalUndo (λ file s surveyed. (
      legal-undo file s,
      (λ made. undo-legal file s made.0 made.1),
    ))) files input)
    (one-legal (Undo input output) files refl)
legal-is-accepted (Fade back input output sheet) files =
    let change = fade_change (files sheet) back in
    let Choice = IsLegalFade sheet back files in
    one-law output (fade_task sheet back input) refl
    (one-made (change_making change) Choice (changed-made change Choice (λ file s surveyed. (
      legal-fade sheet back files file surveyed,
      (λ made. fade-legal sheet back files file surveyed made.0 made.1),
    ))) files input)
    (one-legal (Fade back input output sheet) files refl)
legal-is-accepted (Cut from to least input output) files =
    let choice = cut_choice from to in
    let planning = first_planning (slot_choices least) in
    let Range = λ (i : FileInput). IsRange i.survey from to in
    one-law output
    (laying_task choice planning cut_refuses input) refl
    (one-made (laying_making choice planning) Range (λ file s surveyed. (
      (λ legal.
          let chosen = range-cut from to file s legal in (
            _,
            laying-is choice planning {file = file} {s = s} {chosen = chosen.0}
                {r = Ok (first_plan (slot_choices least) s.class (chosen_needs chosen.0 s))}
                chosen.1 refl,
          )),
      (λ made.
          let by = laid-parts choice planning {file = file} {s = s} {made = made.0} made.1 in
          cut-range from to file s by.chosen by.chose),
    )) files input)
    (one-legal (Cut from to least input output) files refl)
legal-is-accepted (CutExact input from to output) files =
    let Range = IsSampleRange from to in
    one-law output (exact_task from to input) refl
    (one-made (exact_making from to) Range (λ file s surveyed. (
      (λ legal.
          let span = range-span from to file s legal in
          (_, exact-is from to file s {span = span.0} span.1)),
      (λ made.
          let by = piece-parts from to {file = file} {s = s} {made = made.0} made.1 in
          span-range from to file s by.span by.span_is),
    )) files input)
    (one-legal (CutExact input from to output) files refl)
legal-is-accepted (Pack mode input output) files =
    one-law output (pack_task mode input) refl
    (one-packed files input mode) (one-legal (Pack mode input output) files refl)
legal-is-accepted (SplitAt input prefix places) files =
    let Choice = λ (i : FileInput). ArePieceRanges i.survey places in
    split-law
    (frames-right [] (λ f. Ok places) cut_refuses) input prefix
    (λ i each. (places, refl, each))
    (λ i found e each. subst (λ (l : List Place). HoldsOfEachNext l (FramesFollow i))
    (sym (same-places places found e)) each)
    (one-legal (SplitAt input prefix places) files refl)
legal-is-accepted (SplitExact input prefix places) files =
    let Choice = λ (i : FileInput). AreSamplePieces i places in
    split-law
    (samples-right [] (λ f. Ok places) exact_refuses) input prefix
    (λ i each. (places, refl, each))
    (λ i found e each. subst (AreSamplePieces i) (sym (same-places places found e)) each)
    (one-legal (SplitExact input prefix places) files refl)
legal-is-accepted (SplitBy false input prefix sheet) files =
    split-law
    (frames-right (sheet ∷ []) (λ f. cue_sheet_places (f sheet)) sheet_cut_refuses) input
    prefix
    (λ i. sheet-places (ArePieceRanges i.survey) sheet files)
    (λ i. places-sheet (ArePieceRanges i.survey) sheet files)
    (one-legal (SplitBy false input prefix sheet) files refl)
legal-is-accepted (SplitBy true input prefix sheet) files =
    let Pieces = λ (i : FileInput) (places : List Place). AreSamplePieces i (map Position places) in
    split-law (samples-right (sheet ∷ [])
    (λ f. exact_places_result (cue_sheet_places (f sheet))) sheet_exact_refuses) input prefix
    (λ i is.
    let read = sheet-places (Pieces i) sheet files is in (
      map Position read.0,
      ap (λ (r : Result (List Place) EditFault). then_made r exact_list) read.1,
      read.2,
    ))
    (λ i found e each.
    let read = then_ok {r = cue_sheet_places (files sheet)} {make = exact_list} {b = found} e in
    places-sheet (Pieces i) sheet files read.0 read.1
    (subst (AreSamplePieces i) (sym (same-places (map Position read.0) found read.2)) each))
    (one-legal (SplitBy true input prefix sheet) files refl)
legal-is-accepted (Join false output inputs) files = (
  (λ legal.
      let is = joined-of false files output inputs legal in
      parts-make (join_task inputs) output {files = files} {bytes = joined_file is.1} is.0
      (made-parts files inputs joined_file is.1 is.2)),
  (λ made.
      let one = makes-parts (join_task inputs) output {files = files} {made = made.0} made.1 in
      let parts = then_ok {r = join_parts files inputs} {make =
      λ parts. Ok (joined_file parts)} {b = one.1} one.2 in
      legal-of false files output inputs one.0 parts.0 parts.1),
)
legal-is-accepted (Join true output inputs) files =
    let text = seamless_text_or_none inputs (join_parts files inputs) in
    let task = seamless_task inputs in (
      (λ legal.
          let is = joined-of true files output inputs legal in
          let one = parts-make task output {files = files} {bytes = seamless_file is.1} is.0
          (made-parts files inputs seamless_file is.1 is.2) in
          (record one.0 { text = text }, ap (with_text text) one.1)),
      (λ made.
          let told =
          text-parts text ((one_command task output).makes files) {made = made.0} made.1 in
          let one = makes-parts task output {files = files} {made = told.0} told.1 in
          let parts = then_ok {r = join_parts files inputs} {make =
          λ ps. Ok (seamless_file ps)} {b = one.1} one.2 in
          legal-of true files output inputs one.0 parts.0 parts.1),
    )
legal-is-accepted (Remove input output stretches) files =
    let Choice = λ (i : FileInput). IsLegalRemoval stretches i.survey in
    one-law output (remove_task stretches input) refl
    (one-made (remove_making stretches) Choice (λ file s surveyed. (
      legal-removed s stretches file,
      (λ made. removed-legal s stretches file made.0 made.1),
    )) files input)
    (one-legal (Remove input output stretches) files refl)
legal-is-accepted (Salvage input output) files = salvage-law files input output
