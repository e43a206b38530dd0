-- A clash of names, faults met before the output is created, and what comes after.
use Rattle.std.proofs.Common.{ap, ap₂, arith, length, List, map, None, refl, string_bytes, sym, ℕ}
use Rattle.std.proofs.{Common.{[], ◌∙◌, ◌∷◌, ◌≡◌, ◌≤◌}, lemmas.List.length-map}
use Rattle.commands.proofs.KeptLemmas.{asked_early, asked_run, asked_says, asked_stopped}
use Rattle.commands.proofs.KeptLemmas.{early_before, IsToWrite, to_write_one, to_write_told}
use Rattle.commands.proofs.{MakeLemmas.{clash_run, early_run}, TellingLemmas.telling_run}
use Rattle.commands.specs.SingleOutput.{clash_in, one_command}
use Rattle.joined_inputs.proofs.{InputLemmas.named-long, SourceLemmas.join-numbers}
use Rattle.joined_inputs.specs.Inputs.{input_names, input_view}
use Rattle.outside.{proofs.CountsLemmas.none_fell_by_writes, specs.Files.Files}
use Rattle.outside.specs.Seen.{Seen, seen_folder}
use Rattle.seamless_edits.proofs.SeamlessCommandLemmas.{ready-making, ready-names, seamless-late}
use Rattle.seamless_edits.proofs.SeamlessCommandLemmas.{text_of}
use Rattle.seamless_edits.specs.Seamless.{seamless_command, seamless_file, seamless_stream}
use Rattle.seamless_edits.specs.{Seamless.seamless_task, SeamlessReady.IsSeamlessReady}
use Rattle.seamless_edits.specs.declared.seamless_file.Ready.{Ready}
use Rattle.seamless_edits.proofs.seamless_file.join_seamless.Goals as goal

pub returns-in-Some-clause-run : goal.returns-in-Some-clause-run
returns-in-Some-clause-run g c =
    let names = map string_bytes c.args.inputs.now in
    let task = seamless_task names in
    asked_early (seamless_command c.args.output.now names) g.D.Folder.keeping _ refl tt refl
    (telling_run (text_of names) (one_command task c.args.output.now)
    (clash_run task c.args.output.now _ (sym c.clash.ensures ∙ c.in-Some.is)))

pub returns-in_err-ready-clause-run : goal.returns-in_err-ready-clause-run
returns-in_err-ready-clause-run g c =
    let names = map string_bytes c.args.inputs.now in
    let task = seamless_task names in
    let output = c.args.output.now in
    let met = c.in_err-ready.ensures in
    asked_early (seamless_command output names) g.D.Folder.keeping _ c.from_residual.ensures.1
    (early_before _ _ _ _ met.refused) c.prepare_all.ensures.reads.files
    (telling_run (text_of names) (one_command task output)
    (early_run task output (sym c.clash.ensures ∙ c.in_default.is) (seamless-late names) _
    c.from_residual.ensures.1 met.refused
    (join-numbers seamless_file seamless_stream output names _
    (sym (length-map c.args.inputs.now string_bytes)) met.numbers)
    c.prepare_all.ensures.reads.counts))

-- what is about to be written, before the output is asked for
to_write : (output : List ℕ) (names : List (List ℕ)) (files : Files) (ready : Ready)
    → 1 ≤ length names → clash_in (seamless_task names) output ≡ None
    → IsSeamlessReady names files ready
    → IsToWrite (seamless_command output names) (output ∷ []) files
to_write output names files ready some free is = to_write_told (text_of names)
    (to_write_one free (ready-making some is))

pub returns-in_err-ask_all-clause-run : goal.returns-in_err-ask_all-clause-run
returns-in_err-ask_all-clause-run g c =
    let reads = c.prepare_all.ensures.reads in
    let same = ap₂ seen_folder reads.files c.in_ok-ready.ensures.reads.done in
    let stops = c.in_err-ask_all.ensures in
    asked_stopped (to_write c.args.output.now (map string_bytes c.args.inputs.now) _ _
    (omega (arith, c.requires.some, length-map c.args.inputs.now string_bytes))
    (sym c.clash.ensures ∙ c.in_default.is)
    c.in_ok-ready.ensures.ready) c.from_residual-in_err-ask_all.ensures.1
    (none_fell_by_writes (rw same at c.ask_all.ensures.counts)) stops.asked (rw same at stops.stops)

-- there are as many prepared inputs as names
items-long : (ready : Ready) (names : List (List ℕ))
    → input_names (map input_view ready.inputs.items) ≡ names
    → length ready.inputs.items ≡ length names
items-long ready names named = sym (length-map ready.inputs.items input_view)
    ∙ named-long (map input_view ready.inputs.items) named

pub write_and_tell-requires-clause-some : goal.write_and_tell-requires-clause-some
write_and_tell-requires-clause-some g c =
    let names = map string_bytes c.args.inputs.now in
    let ready = c.in_ok-ready.ready in
    omega (
      arith,
      c.requires.some,
      length-map c.args.inputs.now string_bytes,
      items-long ready names (ready-names c.in_ok-ready.ensures.ready),
    )

pub write_and_tell-requires-clause-few : goal.write_and_tell-requires-clause-few
write_and_tell-requires-clause-few g c =
    let names = map string_bytes c.args.inputs.now in
    let ready = c.in_ok-ready.ready in
    omega (
      arith,
      c.requires.few,
      length-map c.args.inputs.now string_bytes,
      items-long ready names (ready-names c.in_ok-ready.ensures.ready),
    )

pub write_and_tell-requires-clause-free : goal.write_and_tell-requires-clause-free
write_and_tell-requires-clause-free g c =
    rw (ready-names
    c.in_ok-ready.ensures.ready) (sym c.clash.ensures ∙ c.in_default.is)

pub write_and_tell-requires-clause-ready : goal.write_and_tell-requires-clause-ready
write_and_tell-requires-clause-ready g c =
    rw (
      ready-names
          c.in_ok-ready.ensures.ready,
      ap (λ (s : Seen). s.files) c.in_ok-ask_all.ensures.stays,
      c.prepare_all.ensures.reads.files,
    ) c.in_ok-ready.ensures.ready

-- the whole call runs from the moment before the survey
pub returns-clause-run : goal.returns-clause-run
returns-clause-run g c =
    let names = map string_bytes c.args.inputs.now in
    let reads = c.prepare_all.ensures.reads in
    let named = ready-names c.in_ok-ready.ensures.ready in
    let before = ap₂ seen_folder reads.files c.in_ok-ready.ensures.reads.done in
    let same = c.in_ok-ask_all.ensures.stays ∙ before in
    asked_run (to_write c.args.output.now names _ _
    (omega (arith, c.requires.some, length-map c.args.inputs.now string_bytes))
    (sym c.clash.ensures ∙ c.in_default.is) c.in_ok-ready.ensures.ready) g.D.Folder.keeping
    (λ keep. rw before at (c.in_ok-ask_all.ensures.free keep))
    (rw (named, same) at c.write_and_tell.ensures.run)

pub returns-clause-says : goal.returns-clause-says
returns-clause-says g c =
    let names = map string_bytes c.args.inputs.now in
    let reads = c.prepare_all.ensures.reads in
    let named = ready-names c.in_ok-ready.ensures.ready in
    let same = c.in_ok-ask_all.ensures.stays
    ∙ ap₂ seen_folder reads.files c.in_ok-ready.ensures.reads.done in
    asked_says g.D.Folder.keeping (seamless_command c.args.output.now names) _ _ _ _
    (rw (named, same) at c.write_and_tell.ensures.says)
