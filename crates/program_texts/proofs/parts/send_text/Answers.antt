-- A text that was sent, and one that failed.
use Rattle.std.proofs.Common.{arith, []}
use Rattle.outside.proofs.BufferOutputLemmas.{on_err}
use Rattle.program_texts.proofs.LineLemmas.{got_front, got_more, got_nothing}
use Rattle.program_texts.proofs.parts.send_text.Goals as goal

pub loop-piece-init : goal.loop-piece-init
loop-piece-init g c = got_nothing _ _

pub returns-in_err-send_all-clause-front : goal.returns-in_err-send_all-clause-front
returns-in_err-send_all-clause-front g c =
    let front = rw c.as_bytes.ensures.value at c.in_err-send_all.ensures.front in
    on_err c.from_residual.result
    (got_front (λ piece. piece.now) c.args.pieces.now
    (record { ref_ptr = (0, 0); now = [] }) c.loop-piece-test.true c.loop-piece.invariant
    (record {
      count = front.0;
      in_range = front.1;
      sent = front.2;
      failed = c.in_err-send_all.ensures.cause.failed;
    }))

pub returns-in_err-send_all-clause-later : goal.returns-in_err-send_all-clause-later
returns-in_err-send_all-clause-later g c =
    omega (arith, c.loop-piece.invariant.done, c.in_err-send_all.ensures.cause.later)

pub loop-piece-preserved : goal.loop-piece-preserved
loop-piece-preserved g c =
    got_more (λ piece. piece.now) c.args.pieces.now
    (record { ref_ptr = (0, 0); now = [] }) c.loop-piece-test.true c.loop-piece.invariant
    (record {
      sent = rw c.as_bytes.ensures.value at c.in_ok-send_all.ensures.written;
      done = c.in_ok-send_all.ensures.cause.done;
    })
