-- A clash of names, faults met before the output is created, and the second pass.
use Rattle.std.proofs.Common.{ap, append-nil, ap₂, arith, length, List, map, None, refl}
use Rattle.std.proofs.Common.{string_bytes, sym, ℕ, [], ◌∙◌, ◌∷◌, ◌≡◌, ◌≤◌}
use Rattle.std.proofs.lemmas.{List.length-map, Result.IfErr-weaker}
use Rattle.commands.proofs.KeptLemmas.{asked_early, asked_run, asked_stopped, early_before}
use Rattle.commands.proofs.KeptLemmas.{IsToWrite, to_write_one}
use Rattle.commands.proofs.MakeLemmas.{clash_run, early_run, one_run, one_streams}
use Rattle.commands.specs.{Command.clash_from, SingleOutput.{IsMaking, most_frames, one_command}}
use Rattle.commands.specs.declared.fault.EditFault.TheVariants.{Memory}
use Rattle.join_edits.proofs.JoinLemmas.{joined-hold, ready-written, written-making}
use Rattle.join_edits.proofs.join_file.join.Goals.{In_ok-sources}
use Rattle.join_edits.specs.{Join.{join_task, joined_file, joined_stream}, JoinReady.IsJoinReady}
use Rattle.joined_inputs.proofs.InputLemmas.{found-input, inputs-join, join-late, named-long}
use Rattle.joined_inputs.proofs.SourceLemmas.{inputs-making, join-numbers}
use Rattle.joined_inputs.specs.Inputs.{AreJoinInputs, CanInputsBeJoined, input_names, input_view}
use Rattle.joined_inputs.specs.{Inputs.InputFields, Laying.{CanJoinBeWritten, join_bytes}}
use Rattle.joined_inputs.specs.declared.{inputs.JoinInput.JoinInput, work.JoinWork.JoinWork}
use Rattle.outside.{proofs.CountsLemmas.none_fell_by_writes, specs.Files.Files}
use Rattle.outside.specs.Seen.{Seen, seen_folder}
use Rattle.join_edits.proofs.join_file.join.Given as given
use Rattle.join_edits.proofs.join_file.join.Goals as goal

pub returns-in-Some : goal.returns-in-Some
returns-in-Some g c =
    let task = join_task (map string_bytes c.args.inputs.now) in
    asked_early (one_command task c.args.output.now) g.D.Folder.keeping _ refl tt refl
    (clash_run task c.args.output.now _ (sym c.clash.ensures ∙ c.in-Some.is))

pub returns-in_err-sources : goal.returns-in_err-sources
returns-in_err-sources g c =
    let names = map string_bytes c.args.inputs.now in
    let output = c.args.output.now in
    let met = c.in_err-sources.ensures in
    let refused = met.refused joined_file joined_stream in
    asked_early (one_command (join_task names) output) g.D.Folder.keeping _
    c.from_residual.ensures.1 (early_before _ _ _ _ refused) c.survey_all.ensures.reads.files
    (early_run (join_task names) output (sym c.clash.ensures ∙ c.in_default.is)
    (join-late joined_file names) _
    c.from_residual.ensures.1 refused
    (join-numbers joined_file joined_stream output names _
    (sym (length-map c.args.inputs.now string_bytes)) met.numbers)
    c.survey_all.ensures.reads.counts)

module _ (g : given.Over) (c : In_ok-sources g) where
  abbrev old : Files
  old = (g.D.Folder.seen c.args.folder.now).files

  abbrev inputs : List InputFields
  inputs = map input_view c.in_ok-sources.sources.items

  are : AreJoinInputs None most_frames old inputs
  are = c.in_ok-sources.ensures.inputs

  named : input_names inputs ≡ map string_bytes c.args.inputs.now
  named = c.in_ok-sources.ensures.names

  long : length inputs ≡ length c.args.inputs.now
  long = named-long inputs named ∙ length-map c.args.inputs.now string_bytes

  some : 1 ≤ length inputs
  some = omega (arith, c.requires.some, long)

  can : CanInputsBeJoined inputs
  can = inputs-join old inputs are some (omega (arith, c.requires.few, long))

  none : clash_from (c.args.output.now ∷ []) 0 (input_names inputs) ≡ None
  none = rw named (sym c.clash.ensures ∙ c.in_default.is)

  -- what is written from the inputs, given what is known of them after the survey
  module _ {mid : Files} {known : List JoinInput} (same : mid ≡ old)
      (items : known ≡ c.in_ok-sources.sources.items) {work : JoinWork}
      (ready : IsJoinReady inputs work) where
    writable : CanJoinBeWritten c.args.output.now mid (map input_view known) work
    writable = rw (same, items) (ready-written none are ready)

    making : IsMaking (join_task (map string_bytes c.args.inputs.now))
        (join_bytes mid (map input_view known) work) old
    making = rw (same, items, ← named)
        (written-making c.args.output.now some none are ready)

pub prepare-requires : goal.prepare-requires
prepare-requires g c = rw c.deref.ensures.value (can g (goal.at.prepare-requires g c).In_ok-sources)

pub returns-in_err-work : goal.returns-in_err-work
returns-in_err-work g c =
    let names = map string_bytes c.args.inputs.now in
    let at = (goal.at.returns-in_err-work g c).In_ok-sources in
    let stays =
    ap₂ seen_folder c.survey_all.ensures.reads.files c.in_ok-sources.ensures.reads.done in
    let found = rw (append-nil, named g at) at
    (found-input most_frames (inputs g at) [] (are g at) (some g at) stays) in
    asked_early (one_command (join_task names) c.args.output.now) g.D.Folder.keeping Memory
    c.from_residual-in_err-work.ensures.1 tt c.survey_all.ensures.reads.files
    (early_run (join_task names) c.args.output.now (sym c.clash.ensures ∙ c.in_default.is)
    (join-late joined_file names) Memory c.from_residual-in_err-work.ensures.1 found tt
    c.survey_all.ensures.reads.counts)

-- what is about to be written, before the output is asked for
to_write : (g : given.Over) (c : In_ok-sources g) {made : List ℕ → List ℕ}
    → IsMaking (join_task (map string_bytes c.args.inputs.now)) made (old g c)
    → IsToWrite (one_command (join_task (map string_bytes c.args.inputs.now)) c.args.output.now)
    (c.args.output.now ∷ []) (old g c)
to_write g c making = to_write_one (sym c.clash.ensures ∙ c.in_default.is) making

pub returns-in_err-ask_all : goal.returns-in_err-ask_all
returns-in_err-ask_all g c =
    let at = (goal.at.returns-in_err-ask_all g c).In_ok-sources in
    let same =
    ap₂ seen_folder c.survey_all.ensures.reads.files c.in_ok-sources.ensures.reads.done in
    let made = making g at refl refl
    (rw c.deref.ensures.value at c.in_ok-work.ensures) in
    let stops = c.in_err-ask_all.ensures in
    asked_stopped (to_write g at made) c.from_residual-in_err-ask_all.ensures.1
    (none_fell_by_writes (rw same at c.ask_all.ensures.counts)) stops.asked (rw same at stops.stops)

pub write_joined-requires-clause-can : goal.write_joined-requires-clause-can
write_joined-requires-clause-can g c =
    let at = (goal.at.write_joined-requires-clause-can g c).In_ok-sources in
    writable g at (ap (λ (s : Seen). s.files) c.in_ok-ask_all.ensures.stays
    ∙ c.survey_all.ensures.reads.files) c.deref-2.ensures.value
    (rw c.deref.ensures.value at c.in_ok-work.ensures)

pub returns : goal.returns
returns g c =
    let names = map string_bytes c.args.inputs.now in
    let output = c.args.output.now in
    let many = length c.args.inputs.now in
    let at = (goal.at.returns g c).In_ok-sources in
    let free = sym c.clash.ensures ∙ c.in_default.is in
    let asked = c.in_ok-ask_all.ensures.stays in
    let before =
    ap₂ seen_folder c.survey_all.ensures.reads.files c.in_ok-sources.ensures.reads.done in
    let same = asked ∙ before in
    let made = making g at refl c.deref-2.ensures.value
    (rw c.deref.ensures.value at c.in_ok-work.ensures) in
    let result = c.write_joined.result in
    let named-now : input_names (map input_view c.deref-2.result.now) ≡ names =
    rw c.deref-2.ensures.value (named g at) in
    let long-now : length c.deref-2.result.now ≡ many =
    omega (
      arith,
      long g at,
      ap length c.deref-2.ensures.value,
      length-map c.in_ok-sources.sources.items input_view,
    ) in
    asked_run (to_write g at made) g.D.Folder.keeping
    (λ keep. rw before at (c.in_ok-ask_all.ensures.free keep))
    (one_run (join_task names) output free made refl
    (one_streams (join_task names) output free _ _
    (rw (named g at) at
    (inputs-making joined_file joined_stream (old g at) (inputs g at) (some g at)
    (are g at) (λ _ _. refl)))
    (rw (named g at) at
    (joined-hold output (old g at) (none g at) (can g at) (are g at))) result)
    (IfErr-weaker result _ _
    (λ fault. join-numbers joined_file joined_stream output names fault
    (sym (length-map c.args.inputs.now string_bytes)))
    (rw long-now at c.write_joined.ensures.numbers))
    (rw (named-now, same) at c.write_joined.ensures.wrote)
    (rw same at c.write_joined.ensures.counts))
