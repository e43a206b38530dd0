-- The outputs have the names that are asked for.
use Rattle.std.proofs.Common.{ap, arith, codes, Err, false, length, length-append, List, map, None}
use Rattle.std.proofs.Common.{Ok, Option, refl, Result, Some, subst, suc, sym, true, zero, ℕ, []}
use Rattle.std.proofs.{Common.{◌%◌, ◌+◌, ◌/◌, ◌<◌, ◌∷◌, ◌≡◌, ◌≢◌, ◌≤◌}, Math.Seq.drop-append_seam}
use Rattle.std.{proofs.lemmas.List.length-map, specs.List.range_with_len}
use Rattle.chosen_streams.specs.Laws.{AreNamed, HasNone, OutputsAreNamed}
use Rattle.commands.{proofs.RefusingLemmas.then_ok, specs.Command.Made}
use Rattle.commands.specs.SingleOutput.{command_result, most_frames, one_command, Task}
use Rattle.commands.specs.{WithText.with_text, declared.fault.EditFault.EditFault}
use Rattle.cue_sheet.{proofs.StartsLemmas.starts-few, specs.Cues.{cue_entries_of, cue_of}}
use Rattle.cue_sheet.specs.declared.place.Place.{Place}
use Rattle.cut_edits.specs.Exact.{exact_task}
use Rattle.exact_span.specs.declared.exact_place.ExactPlace.{ExactPlace}
use Rattle.exact_span.specs.declared.exact_place.ExactPlace.TheVariants.{Place as Position}
use Rattle.gain_edits.specs.Fade.{fade_task}
use Rattle.job_words.specs.Request.{Cut, CutExact, Drill, Fade, Gain, Help, InfoFile, Join}
use Rattle.job_words.specs.Request.{ListFile, Pack, Remove, Salvage, SplitAt, SplitBy, SplitExact}
use Rattle.job_words.specs.Request.{Undo, Version}
use Rattle.join_edits.specs.Join.{join_task}
use Rattle.joined_inputs.specs.Parts.{join_parts}
use Rattle.laying.specs.Laid.{LaidPart}
use Rattle.list_edits.specs.TextCommand.{input_text, surveyed_text}
use Rattle.outside.specs.Files.{Contents}
use Rattle.pack_edits.specs.Modes.{pack_task}
use Rattle.remove_edits.specs.Removed.{remove_task}
use Rattle.requests.specs.Names.{piece_name, piece_names}
use Rattle.salvage_edits.specs.Salvaged.{input_salvage_text, salvage_task}
use Rattle.seamless_edits.specs.Seamless.{seamless_task, seamless_text_or_none}
use Rattle.split_edits.proofs.PartsLemmas.{cue-parts, split-parts}
use Rattle.split_edits.specs.Cutting.{Cutting, piece_parts, piece_parts_from, pieces_from}
use Rattle.split_edits.specs.Cutting.{split_command, with_first}
use Rattle.split_edits.specs.Split.{cue_sheet_places, exact_places_result, given_cutting}
use Rattle.split_edits.specs.Split.{given_exact_cutting, sheet_cutting, sheet_exact_cutting}
use Rattle.sync_survey.specs.{Faults.SurveyFields, Survey.survey_of}
use Rattle.sync_survey.specs.declared.survey_fault.SurveyFault.{SurveyFault}

-- ---- the pieces of a split

-- the names of two numbers differ
names-differ : (prefix : List ℕ) {j k : ℕ} → j < k → k ≤ 99
    → piece_name prefix j ≢ piece_name prefix k
unfolding piece_name
names-differ prefix {j} {k} less most same =
    grind (
      arith,
      drop-append_seam prefix ((48 + j / 10) ∷ (48 + j % 10) ∷ codes ".mp3"),
      codes
          ".mp3",
      drop-append_seam prefix ((48 + k / 10) ∷ (48 + k % 10) ∷ codes ".mp3"),
    )

module _ (prefix file : List ℕ) (s : SurveyFields) where
  later-differ : {j k : ℕ} (all : List LaidPart) → j < k → k + length all ≤ 100
      → HasNone (piece_name prefix j) (pieces_from prefix k file s all)
  later-differ [] less most = tt
  later-differ {j} {k} (laid ∷ all) less most =
      grind (
        arith,
        names-differ,
        later-differ {j = j} {k = k + 1} all (omega (arith, less)) (omega (
          arith,
          most,
        )),
      )

  pieces-named : (k n : ℕ) (all : List LaidPart) → length all ≤ n → k + length all ≤ 100
      → AreNamed (map (piece_name prefix) (range_with_len k n)) (pieces_from prefix k file s all)
  pieces-named k n [] few most = tt
  pieces-named k zero (laid ∷ all) few most = absurd (omega (arith, few))
  pieces-named k (suc n) (laid ∷ all) few most =
      grind (
        arith,
        later-differ {j = k} {k = k + 1} all (omega arith) (omega (arith, most)),
        pieces-named (k
            + 1) n all (omega (arith, few)) (omega (arith, most)),
      )

all-named : (prefix file : List ℕ) (s : SurveyFields) (all : List LaidPart) → length all ≤ 99
    → AreNamed (piece_names prefix) (pieces_from prefix 1 file s all)
unfolding piece_names
all-named prefix file s all few = pieces-named prefix file s 1 99 all few (omega (arith, few))

-- there are at most 99 pieces
first-parts : (first : LaidPart) (r : Result (List LaidPart) EditFault) {all : List LaidPart}
    → with_first first r ≡ Ok all
    → (more : List LaidPart) × (r ≡ Ok more) × (length all ≡ suc (length more))
first-parts first (Ok more) {all} e = let same : first ∷ more ≡ all = cc in
    (more, refl, ap length (sym same))
first-parts first (Err fault) e = absurd cc

module _ {P : Type 0} (cut : Cutting P) (file : List ℕ) (s : SurveyFields) where
  from-few : (from : P) (places : List P) {all : List LaidPart}
      → piece_parts_from cut file s from places ≡ Ok all → length all ≤ length places
  from-few from [] e = grind arith
  from-few from (to ∷ places) {all} e =
      let one = then_ok {r = cut.between from to file s}
      {make = λ first. with_first first (piece_parts_from cut file s to places)} {b = all} e in
      let more = first-parts one.0 (piece_parts_from cut file s to places) {all = all} one.2 in
      omega (arith, from-few to places {all = more.0} more.1, more.2)

  at-few : (places : List P) {all : List LaidPart} → piece_parts cut file s places ≡ Ok all
      → length places ≤ 100 → length all ≤ 99
  at-few [] e most = grind arith
  at-few (place ∷ places) {all} e most = omega (arith, from-few place places e, most)

module _ {P : Type 0} (cut : Cutting P) (input prefix : List ℕ) {f : Contents}
    (few : (places : List P) → cut.places f ≡ Ok places → length places ≤ 100) where
  -- the outputs of a split have the names that the prefix gives
  pub split-named : (made : Made) → (split_command cut input prefix).makes f ≡ Ok made
      → AreNamed (piece_names prefix) made.outputs
  split-named made e = grind (arith, split-parts, all-named, at-few)

-- ---- the other commands

surveyed-named : (text : SurveyFields → List ℕ) (r : Result SurveyFields SurveyFault) {made : Made}
    → surveyed_text text r ≡ Ok made → AreNamed [] made.outputs
surveyed-named text (Ok s) e = grind arith
surveyed-named text (Err fault) e = absurd cc

-- a text is sent, and nothing written
pub text-named : (text : List ℕ → SurveyFields → List ℕ) (o : Option (List ℕ)) (made : Made)
    → input_text text o ≡ Ok made → AreNamed [] made.outputs
text-named text None made e = absurd cc
text-named text (Some file) made e = surveyed-named (text file) (survey_of file most_frames) e

-- a command that makes one file makes one output, and no text
pub one_made : {output : List ℕ} (r : Result (List ℕ) EditFault) {made : Made}
    → command_result output r ≡ Ok made → (bytes : List ℕ)
    × (record { outputs = record { name = output; bytes = bytes } ∷ []; text = [] } ≡ made)
one_made (Ok bytes) is = (bytes, cc)
one_made (Err fault) is = absurd cc

one-named : (task : Task) (output : List ℕ) (f : Contents) (made : Made)
    → (one_command task output).makes f ≡ Ok made → AreNamed (output ∷ []) made.outputs
one-named task output f made e = grind (arith, one_made)

named-told : (text : List ℕ) (names : List (List ℕ)) (r : Result Made EditFault) (made : Made)
    → ((m : Made) → r ≡ Ok m → AreNamed names m.outputs) → with_text text r ≡ Ok made
    → AreNamed names made.outputs
named-told text names (Ok m) made named e = grind arith
named-told text names (Err fault) made named e = absurd cc

-- a cue sheet has at most 99 starts
cue-few : (bytes : List ℕ) {starts : List Place} → cue_of bytes ≡ Ok starts → length starts ≤ 99
unfolding cue_of
cue-few bytes {starts} e = (starts-few (cue_entries_of bytes) e).1

told-few : (o : Option (List ℕ)) (found : List Place) → cue_sheet_places o ≡ Ok found
    → length found ≤ 100
told-few o found e = grind (arith, cue-parts, cue-few, length-append)

exact-few : (o : Option (List ℕ)) (found : List ExactPlace)
    → exact_places_result (cue_sheet_places o) ≡ Ok found → length found ≤ 100
exact-few o found e =
    let parts =
    then_ok {r = cue_sheet_places o} {make = λ list. Ok (map Position list)} {b = found} e in
    let same : map Position parts.0 ≡ found = cc in
    subst (λ (l : List ExactPlace). length l ≤ 100) same
    (omega (arith, length-map parts.0 Position, told-few o parts.0 parts.1))

-- ---- whatever is asked for

-- what is written has the names that are asked for
pub outputs-named : OutputsAreNamed
outputs-named Help sound f made e = grind arith
outputs-named Version sound f made e = grind arith
outputs-named (Drill seed count) sound f made e = grind arith
outputs-named (ListFile input) sound f made e = text-named _ (f input) made e
outputs-named (InfoFile input) sound f made e = text-named _ (f input) made e
outputs-named (Gain shift tags input output) sound f made e = one-named _ output f made e
outputs-named (Undo input output) sound f made e = one-named _ output f made e
outputs-named (Fade back input output sheet) sound f made e =
    one-named (fade_task sheet back input) output f made e
outputs-named (Cut from to least input output) sound f made e = one-named _ output f made e
outputs-named (CutExact input from to output) sound f made e =
    one-named (exact_task from to input) output f made e
outputs-named (Pack mode input output) sound f made e =
    one-named (pack_task mode input) output f made e
outputs-named (SplitAt input prefix places) sound f made e =
    split-named (given_cutting places) input prefix {f = f}
    (λ found is. let same : places ≡ found = cc in
    subst (λ (l : List Place). length l ≤ 100) same sound.2.few) made e
outputs-named (SplitExact input prefix places) sound f made e =
    split-named (given_exact_cutting places) input prefix {f = f}
    (λ found is. let same : places ≡ found = cc in
    subst (λ (l : List ExactPlace). length l ≤ 100) same sound.2.few) made e
outputs-named (SplitBy false input prefix sheet) sound f made e =
    split-named (sheet_cutting sheet) input prefix {f = f} (told-few (f sheet)) made e
outputs-named (SplitBy true input prefix sheet) sound f made e =
    split-named (sheet_exact_cutting sheet) input prefix {f = f} (exact-few (f sheet)) made e
outputs-named (Join false output inputs) sound f made e =
    one-named (join_task inputs) output f made e
outputs-named (Join true output inputs) sound f made e =
    named-told (seamless_text_or_none inputs (join_parts f inputs)) (output ∷ [])
    ((one_command (seamless_task inputs) output).makes f) made
    (one-named (seamless_task inputs) output f) e
outputs-named (Remove input output stretches) sound f made e =
    one-named (remove_task stretches input) output f made e
outputs-named (Salvage input output) sound f made e =
    named-told (input_salvage_text (f input)) (output ∷ [])
    ((one_command (salvage_task input) output).makes f) made
    (one-named (salvage_task input) output f) e
