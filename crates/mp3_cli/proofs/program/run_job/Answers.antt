-- The line names the files of the job, and the status is the status of the fault.
use Rattle.std.proofs.Common.{ap, Bor, List, map, sym, ℕ, ◌∙◌}
use Rattle.command_table.{proofs.NameLemmas.names-are, specs.Table.command_of}
use Rattle.commands.specs.SentText.{answer_fault}
use Rattle.job_words.specs.Request.{job_request}
use Rattle.mp3_cli.proofs.{KeptRunLemmas.{asked-inputs, asked-outputs}, RunLemmas.done_where_zero}
use Rattle.mp3_cli.proofs.program.run_job.Goals as goal

pub returns-clause-answers : goal.returns-clause-answers
returns-clause-answers g c =
    let asked = job_request c.args.job in
    let inputs = ap (map (λ (name : Bor (List ℕ)). name.now)) c.as_slice.ensures.value
    ∙ c.files_of-files.ensures.inputs
    ∙ sym (asked-inputs g.D.Folder.keeping (command_of asked) ∙ (names-are asked).inputs) in
    let outputs = c.files_of-files.ensures.outputs
    ∙ sym (asked-outputs g.D.Folder.keeping (command_of asked) ∙ (names-are asked).outputs) in
    record {
      fault = answer_fault c.do_job-done.result;
      ends = c.do_job-done.ensures.ends;
      status_is = c.report.ensures.status;
      line = rw (inputs, outputs) at c.report.ensures.line;
    }

pub returns-clause-streams : goal.returns-clause-streams
returns-clause-streams g c zero_is = done_where_zero c.do_job-done.result
    (sym c.report.ensures.status ∙ zero_is) c.do_job-done.ensures.streams
