-- A clash of names, faults met before the output is created, and what comes after.
use Rattle.std.proofs.Common.{ap, ap₂, List, None, refl, sym, ℕ, [], ◌∙◌, ◌∷◌, ◌≡◌}
use Rattle.commands.proofs.KeptLemmas.{asked_early, asked_run, asked_says, asked_stopped}
use Rattle.commands.proofs.KeptLemmas.{early_before, IsToWrite, to_write_one, to_write_told}
use Rattle.commands.proofs.MakeLemmas.{clash_run, early_run, numbers_early}
use Rattle.commands.{proofs.TellingLemmas.telling_run, specs.SingleOutput.{clash_in, one_command}}
use Rattle.outside.{proofs.CountsLemmas.none_fell_by_writes, specs.Files.Files}
use Rattle.outside.specs.Seen.{Seen, seen_folder}
use Rattle.salvage_edits.proofs.CommandLemmas.{ready-makes, salvage-late, text_of}
use Rattle.salvage_edits.specs.{Ready.IsSalvageReady, Salvaged.{salvage_command, salvage_task}}
use Rattle.salvage_edits.specs.declared.work.SalvageWork.{SalvageWork}
use Rattle.salvage_edits.proofs.salvage_file.salvage.Goals as goal

pub returns-in-Some-clause-run : goal.returns-in-Some-clause-run
returns-in-Some-clause-run g c =
    let task = salvage_task c.args.input.now in
    asked_early (salvage_command c.args.input.now c.args.output.now) g.D.Folder.keeping _ refl tt
    refl (telling_run (text_of c.args.input.now) (one_command task c.args.output.now)
    (clash_run task c.args.output.now _ (sym c.clash.ensures ∙ c.in-Some.is)))

pub returns-in_err-work-clause-run : goal.returns-in_err-work-clause-run
returns-in_err-work-clause-run g c =
    let input = c.args.input.now in
    let task = salvage_task input in
    let output = c.args.output.now in
    let reads = c.in_err-work.ensures.reads in
    asked_early (salvage_command input output) g.D.Folder.keeping _ c.from_residual.ensures.1
    (early_before _ _ _ _ reads.refused) c.prepare.ensures.reads.files
    (telling_run (text_of input) (one_command task output)
    (early_run task output (sym c.clash.ensures ∙ c.in_default.is) (salvage-late) _
    c.from_residual.ensures.1 reads.refused (numbers_early task output _ reads.numbers)
    c.prepare.ensures.reads.counts))

-- what is about to be written, before the output is asked for
to_write : (input output : List ℕ) (files : Files) (work : SalvageWork)
    → clash_in (salvage_task input) output ≡ None → IsSalvageReady input files work
    → IsToWrite (salvage_command input output) (output ∷ []) files
to_write input output files work free ready = to_write_told (text_of input)
    (to_write_one free (ready-makes input ready))

pub returns-in_err-ask_all-clause-run : goal.returns-in_err-ask_all-clause-run
returns-in_err-ask_all-clause-run g c =
    let reads = c.prepare.ensures.reads in
    let same = ap₂ seen_folder reads.files c.in_ok-work.ensures.reads.done in
    let stops = c.in_err-ask_all.ensures in
    asked_stopped (to_write c.args.input.now c.args.output.now _ _
    (sym c.clash.ensures ∙ c.in_default.is) c.in_ok-work.ensures.ready)
    c.from_residual-in_err-ask_all.ensures.1
    (none_fell_by_writes (rw same at c.ask_all.ensures.counts)) stops.asked (rw same at stops.stops)

pub write_and_tell-requires-clause-free : goal.write_and_tell-requires-clause-free
write_and_tell-requires-clause-free g c = sym c.clash.ensures ∙ c.in_default.is

pub write_and_tell-requires-clause-ready : goal.write_and_tell-requires-clause-ready
write_and_tell-requires-clause-ready g c =
    rw (ap (λ (s : Seen). s.files) c.in_ok-ask_all.ensures.stays, c.prepare.ensures.reads.files)
    c.in_ok-work.ensures.ready

-- the whole call runs from the moment before the reading
pub returns : goal.returns
returns g c =
    let command = salvage_command c.args.input.now c.args.output.now in
    let reads = c.prepare.ensures.reads in
    let before = ap₂ seen_folder reads.files c.in_ok-work.ensures.reads.done in
    let same = c.in_ok-ask_all.ensures.stays ∙ before in
    record {
      run = asked_run (to_write c.args.input.now c.args.output.now _ _
          (sym c.clash.ensures ∙ c.in_default.is) c.in_ok-work.ensures.ready) g.D.Folder.keeping
          (λ keep. rw before at (c.in_ok-ask_all.ensures.free keep))
          (rw same at c.write_and_tell.ensures.run);
      says =
          asked_says g.D.Folder.keeping command _ _ _ _ (rw same at c.write_and_tell.ensures.says);
    }
