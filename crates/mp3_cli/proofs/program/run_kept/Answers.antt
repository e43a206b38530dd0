-- The folder is lent as one that keeps what is there, or used as it is.
use Rattle.std.proofs.{Common.{ap, rules}, Math.Bool.or-true}
use Rattle.mp3_cli.proofs.KeptRunLemmas.{lent-answers}
use Rattle.outside.specs.Seen.{kept_seen}
use Rattle.mp3_cli.proofs.program.run_kept.Goals as goal

pub returns-then-keeps-clause-answers : goal.returns-then-keeps-clause-answers
returns-then-keeps-clause-answers g c =
    rw (c.if-keeps.true, or-true g.D.Folder.keeping)
    (lent-answers c.new.result.folder.ghost_name c.run_job.new.folder.folder.ghost_name
    (g.D.Folder.seen c.args.folder.now) (g.D.Folder.seen c.folder-1.given.0)
    (ap (λ d. kept_seen c.new.result.folder.ghost_name (g.D.Folder.seen d)) c.new.ensures.now)
    (search rules) c.run_job.ensures.answers)
