-- The line about both.
use Rattle.std.proofs.Common.{ap, List, subst, ℕ, ◌∙◌}
use Rattle.drill.proofs.PackedLemmas.{text-of, told-all, told-part}
use Rattle.outside.specs.{BufferOutput.SentPrefix, Files.sent_and_more}
use Rattle.drill.proofs.calls.drill.Goals as goal

pub returns-in-Ok-clause-says : goal.returns-in-Ok-clause-says
returns-in-Ok-clause-says g c files =
    told-all c.args.seed c.args.count files (g.T.Sink.heard c.args.out.now)
    (g.T.Sink.heard c.send_summary.new.sink)
    (c.in-Ok.ensures.sent ∙ ap (sent_and_more (g.T.Sink.heard c.args.out.now).sent)
    (text-of c.args.seed c.in_ok-summary.ensures))
    c.in-Ok.ensures.cause.done

pub returns-in-Err-clause-says : goal.returns-in-Err-clause-says
returns-in-Err-clause-says g c files =
    told-part c.args.seed c.args.count files (g.T.Sink.heard c.args.out.now)
    (g.T.Sink.heard c.send_summary.new.sink)
    (subst (λ (text : List ℕ). SentPrefix text
    (g.T.Sink.heard c.args.out.now).sent (g.T.Sink.heard c.send_summary.new.sink).sent)
    (text-of c.args.seed c.in_ok-summary.ensures)
    c.in-Err.ensures.prefix)
    c.in-Err.ensures.cause.failed
