-- The file isn't found, or is too long; or what is read after that is read from unchanged files and
-- counts.
use Rattle.std.proofs.Common.{rules, subst, ◌∙◌}
use Rattle.outside.proofs.BufferOutputLemmas.{err_at}
use Rattle.salvage.{proofs.ReadFaultLemmas.{find_refusal, seen_same}, specs.Answers.DamagedAnswer}
use Rattle.salvage.proofs.reading.read_damaged.Goals as goal

pub returns-in_err-size : goal.returns-in_err-size
returns-in_err-size g c =
    let refusal =
    find_refusal (c.in_err-size.ensures.refused 0) c.in_err-size.ensures.length in
    record {
      exact = search rules;
      laid = search rules;
      there = search rules;
      octets = search rules;
      done = search rules;
      refused = err_at _ _ c.from_residual.ensures.1 refusal.cause;
      numbers = err_at _ _ c.from_residual.ensures.1 refusal.numbers;
      files = search rules;
      counts = search rules;
    }

pub returns : goal.returns
returns g c =
    subst (λ old. DamagedAnswer c.args.name.now old
    (g.D.Folder.seen c.read_on.new.folder) c.read_on.result)
    (seen_same (c.in_ok-begun.ensures.reads.files ∙ c.in_ok-size.ensures.files)
    (c.in_ok-begun.ensures.reads.done ∙ c.in_ok-size.ensures.done))
    c.read_on.ensures
