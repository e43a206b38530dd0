-- A long piece is sent after what waited.
use Rattle.outside.proofs.BufferOutputLemmas.{on_err}
use Rattle.outside.proofs.SentLemmas.{sent_over, sent_over_prefix, sent_prefix_of}
use Rattle.outside.proofs.send_buffer.SendBuffer.push_over.Goals as goal

pub returns-in_err-finish-clause-prefix : goal.returns-in_err-finish-clause-prefix
returns-in_err-finish-clause-prefix g c =
    on_err c.from_residual.result (sent_prefix_of c.args.piece.now c.in_err-finish.ensures.prefix)

pub returns-then-piece-gt-BUFFER_SIZE-clause-passed :
    goal.returns-then-piece-gt-BUFFER_SIZE-clause-passed
returns-then-piece-gt-BUFFER_SIZE-clause-passed g c =
    sent_over c.send_all.result c.args.self.now c.args.piece.now _ _
    c.in_ok-finish.ensures.sent c.in_ok-finish.ensures.none c.send_all.ensures.written

pub returns-then-piece-gt-BUFFER_SIZE-clause-prefix :
    goal.returns-then-piece-gt-BUFFER_SIZE-clause-prefix
returns-then-piece-gt-BUFFER_SIZE-clause-prefix g c =
    sent_over_prefix c.send_all.result c.args.self.now c.args.piece.now _ _
    c.in_ok-finish.ensures.sent c.send_all.ensures.front
