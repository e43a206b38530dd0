-- A clash of names, a fault met before the output is created, and the second pass.
use Rattle.std.proofs.Common.{ap₂, List, None, refl, ℕ, [], ◌∙◌, ◌∷◌, ◌≡◌}
use Rattle.commands.proofs.KeptLemmas.{asked_early, asked_run, asked_stopped, early_before}
use Rattle.commands.proofs.KeptLemmas.{IsToWrite, to_write_one}
use Rattle.commands.proofs.MakeLemmas.{clash_is, clash_run, early_run, numbers_early, pass_run}
use Rattle.commands.proofs.{MakeLemmas.{source_apart, source_is}, edit.make_one.Goals.In_default}
use Rattle.commands.specs.SingleOutput.{clash_in, IsMaking, one_command, Task}
use Rattle.outside.{proofs.CountsLemmas.none_fell_by_writes, specs.Seen.seen_folder}
use Rattle.commands.proofs.edit.make_one.Given as given
use Rattle.commands.proofs.edit.make_one.Goals as goal

pub returns-in-Some : goal.returns-in-Some
returns-in-Some g c =
    let task = g.E.Edit.task c.args.edit.now in
    asked_early (one_command task c.args.output.now) g.D.Folder.keeping _ refl tt refl
    (clash_run task c.args.output.now _ (clash_is c.inputs-inputs.result task
    c.inputs-inputs.ensures c.args.output.now c.clash.ensures c.in-Some.is))

-- no names clash
module _ (g : given.Over) (c : In_default g) where
  abbrev task : Task
  task = g.E.Edit.task c.args.edit.now

  free : clash_in task c.args.output.now ≡ None
  free = clash_is c.inputs-inputs.result task c.inputs-inputs.ensures c.args.output.now
      c.clash.ensures c.in_default.is

  -- what is about to be written, before the output is asked for
  to_write : {file : List ℕ → List ℕ} → IsMaking task file (g.D.Folder.seen c.args.folder.now).files
      → IsToWrite (one_command task c.args.output.now) (c.args.output.now ∷ [])
      (g.D.Folder.seen c.args.folder.now).files
  to_write making = to_write_one free making

  source : c.inputs-inputs.result.source.now ≡ task.source
  source = source_is c.inputs-inputs.result task c.inputs-inputs.ensures c.requires.proper.first

pub returns-in_err-work : goal.returns-in_err-work
returns-in_err-work g c =
    let at = (goal.at.returns-in_err-work g c).In_default in
    let met = c.in_err-work.ensures in
    asked_early (one_command (task g at) c.args.output.now) g.D.Folder.keeping _
    c.from_residual.ensures.1 (early_before _ _ _ _ met.refused) c.prepare.ensures.files
    (early_run (task g at) c.args.output.now (free g at) c.requires.proper.late _
    c.from_residual.ensures.1 met.refused
    (numbers_early (task g at) c.args.output.now _ met.numbers) c.prepare.ensures.counts)

pub returns-in_err-ask_all : goal.returns-in_err-ask_all
returns-in_err-ask_all g c =
    let at = (goal.at.returns-in_err-ask_all g c).In_default in
    let same = ap₂ seen_folder c.prepare.ensures.files c.in_ok-work.ensures.done in
    let stops = c.in_err-ask_all.ensures in
    asked_stopped (to_write g at c.in_ok-work.ensures.making)
    c.from_residual-in_err-ask_all.ensures.1
    (none_fell_by_writes (rw same at c.ask_all.ensures.counts)) stops.asked (rw same at stops.stops)

pub write_output-requires-clause-apart : goal.write_output-requires-clause-apart
write_output-requires-clause-apart g c =
    let at = (goal.at.write_output-requires-clause-apart g c).In_default in
    rw (source g at) (source_apart (task g at).inputs c.requires.proper.some
    c.requires.proper.first (free g at))

pub write_output-requires-clause-ready : goal.write_output-requires-clause-ready
write_output-requires-clause-ready g c =
    let at = (goal.at.write_output-requires-clause-ready g c).In_default in
    rw (source g at, c.in_ok-ask_all.ensures.stays, c.prepare.ensures.files)
    c.in_ok-work.ensures.ready

pub returns : goal.returns
returns g c =
    let at = (goal.at.returns g c).In_default in
    let same = c.in_ok-ask_all.ensures.stays
    ∙ ap₂ seen_folder c.prepare.ensures.files c.in_ok-work.ensures.done in
    asked_run (to_write g at c.in_ok-work.ensures.making) g.D.Folder.keeping
    (λ keep. rw c.prepare.ensures.files at (c.in_ok-ask_all.ensures.free keep))
    (pass_run (task g at) c.args.output.now (free g at) c.in_ok-work.ensures.making
    c.requires.proper c.write_output.ensures.numbers
    (rw (source g at, same) at c.write_output.ensures.wrote)
    (rw same at c.write_output.ensures.counts))
