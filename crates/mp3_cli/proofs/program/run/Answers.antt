-- A bad word is refused, or its job was done.
use Rattle.std.{proofs.Common.{ap, map, refl, string_bytes, subst, sym, ◌∙◌}, specs.Prelude.IfOk}
use Rattle.job_words.specs.Request.{IsSoundRequest, job_request, request_result}
use Rattle.mp3_cli.proofs.ProgramRunLemmas.{command_ran, program_ran, word_refused}
use Rattle.outside.proofs.CountsLemmas.{none_fell_same}
use Rattle.mp3_cli.proofs.program.run.Goals as goal

pub returns-in-Err : goal.returns-in-Err
returns-in-Err g c =
    program_ran
    (word_refused _ (sym c.job.ensures.exact ∙ ap request_result c.in-Err.is)
    (record { status_is = refl; line = c.send_bad_word.ensures; silent = refl; stays = refl })
    (none_fell_same _))

pub returns-in-Ok : goal.returns-in-Ok
returns-in-Ok g c =
    let keeps = c.keeps.ensures in
    program_ran
    (command_ran _ (map string_bytes c.args.words.now)
    (sym c.job.ensures.exact ∙ ap request_result c.in-Ok.is)
    (rw keeps at c.run_kept.ensures.answers)
    (subst (λ r. IfOk r (λ job. IsSoundRequest (job_request job)))
    c.in-Ok.is c.job.ensures.sound)
    (rw keeps at c.run_kept.ensures.streams) c.run_kept.ensures.counts)
