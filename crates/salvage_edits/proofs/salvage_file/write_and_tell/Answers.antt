-- The second pass, and the text.
use Rattle.std.proofs.Common.{ap, arith, length, List, refl, sym, ℕ, [], ◌∙◌, ◌∷◌, ◌≡◌}
use Rattle.commands.proofs.MakeLemmas.{returned_run, source_apart}
use Rattle.commands.proofs.TellingLemmas.{says-all, says-prefix, telling_run, unsent_run}
use Rattle.commands.specs.{SentText.IsCommandText, SingleOutput.one_command}
use Rattle.salvage_edits.proofs.CommandLemmas.{ready-order, ready-text, text_of, written_run}
use Rattle.salvage_edits.proofs.salvage_file.write_and_tell.Goals.{After-send_report}
use Rattle.salvage_edits.specs.{Ordered.report_text, Salvaged.{salvage_command, salvage_task}}
use Rattle.sync_survey.specs.Row.{Row}
use Rattle.salvage_edits.proofs.salvage_file.write_and_tell.Given as given
use Rattle.salvage_edits.proofs.salvage_file.write_and_tell.Goals as goal

pub write_output-requires-clause-apart : goal.write_output-requires-clause-apart
write_output-requires-clause-apart g c =
    source_apart (c.args.input.now ∷ []) (omega arith) refl c.requires.free

pub write_output-requires-clause-ready : goal.write_output-requires-clause-ready
write_output-requires-clause-ready g c = c.requires.ready.layable

pub send_report-requires-clause-order : goal.send_report-requires-clause-order
send_report-requires-clause-order g c = ready-order c.args.input.now c.requires.ready

pub returns-in_err-write_output-clause-run : goal.returns-in_err-write_output-clause-run
returns-in_err-write_output-clause-run g c =
    let input = c.args.input.now in
    let output = c.args.output.now in
    let met = c.in_err-write_output.ensures in
    returned_run c.from_residual.ensures.1
    (telling_run (text_of input) (one_command (salvage_task input) output)
    (written_run c.requires.free c.requires.ready met.numbers
    met.wrote c.write_output.ensures.counts))

pub returns-in-Ok-clause-run : goal.returns-in-Ok-clause-run
returns-in-Ok-clause-run g c =
    let input = c.args.input.now in
    let output = c.args.output.now in
    telling_run (text_of input) (one_command (salvage_task input) output)
    (written_run c.requires.free c.requires.ready tt
    c.in_ok-write_output.ensures.wrote c.write_output.ensures.counts)

-- the text of the command is the text of the report
told : (g : given.Over) (c : After-send_report g) (all : List ℕ)
    → IsCommandText (salvage_command c.args.input.now c.args.output.now)
    (g.D.Folder.seen c.args.folder.now).files all
    → report_text (length c.frames.result.now) c.args.work.now.report ≡ all
told g c all is =
    ap (λ (rows : List Row). report_text (length rows) c.args.work.now.report) c.frames.ensures
    ∙ sym (ready-text c.args.input.now
    c.requires.ready c.args.output.now is)

pub returns-in-Ok-clause-says : goal.returns-in-Ok-clause-says
returns-in-Ok-clause-says g c =
    let said = (goal.at.returns-in-Ok-clause-says g c).After-send_report in
    says-all _ _ (told g said)
    c.in-Ok.ensures.sent c.in-Ok.ensures.cause.done

pub returns-in-Err-clause-run : goal.returns-in-Err-clause-run
returns-in-Err-clause-run g c =
    let input = c.args.input.now in
    let output = c.args.output.now in
    unsent_run (text_of input) (one_command (salvage_task input) output)
    (written_run c.requires.free c.requires.ready tt
    c.in_ok-write_output.ensures.wrote c.write_output.ensures.counts)

pub returns-in-Err-clause-says : goal.returns-in-Err-clause-says
returns-in-Err-clause-says g c =
    let said = (goal.at.returns-in-Err-clause-says g c).After-send_report in
    says-prefix _ _ (told g said)
    c.in-Err.ensures.prefix c.in-Err.ensures.cause.failed
