-- A piece that fits waits, and nothing is sent.
use Rattle.outside.proofs.SentLemmas.{sent_none}
use Rattle.outside.proofs.send_buffer.SendBuffer.push.Goals as goal

pub returns-then-piece-free-clause-passed : goal.returns-then-piece-free-clause-passed
returns-then-piece-free-clause-passed g c =
    rw (c.add.ensures, c.self.view_is) (sent_none (g.T.Sink.heard c.args.sink.now).sent _)
