-- A part that was sent, and one that failed.
use Rattle.outside.proofs.BufferOutputLemmas.{on_err}
use Rattle.program_texts.proofs.LineLemmas.{got_front, got_more, got_nothing}
use Rattle.program_texts.specs.Lines.{line_part_of, part_text}
use Rattle.program_texts.proofs.parts.send_parts.Goals as goal

pub loop-part-init : goal.loop-part-init
loop-part-init g c = got_nothing _ _

pub returns-in_err-send_part-clause-front : goal.returns-in_err-send_part-clause-front
returns-in_err-send_part-clause-front g c =
    on_err c.from_residual.result
    (got_front (λ part. part_text (line_part_of part)) c.args.parts.now _
    c.loop-part-test.true c.loop-part.invariant c.in_err-send_part.ensures.front)

pub loop-part-preserved : goal.loop-part-preserved
loop-part-preserved g c =
    got_more (λ part. part_text (line_part_of part)) c.args.parts.now _
    c.loop-part-test.true c.loop-part.invariant c.in_ok-send_part.ensures.whole
