-- Nothing is sent where the command was done.
use Rattle.std.proofs.Common.{sym}
use Rattle.mp3_cli.proofs.RunLemmas.{sent_no_line}
use Rattle.mp3_cli.proofs.program.report.Goals as goal

pub returns-in-Ok-clause-line : goal.returns-in-Ok-clause-line
returns-in-Ok-clause-line g c = rw (← sym c.in-Ok.is)
    (sent_no_line (g.E.Sink.heard c.args.err.now).sent (g.E.Sink.heard c.args.err.now).faults)
