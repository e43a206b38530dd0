-- Line by line, then what waits.
use Rattle.std.proofs.{Common.{arith, ◌∙◌}, lemmas.List.drop_all}
use Rattle.list_edits.proofs.InfoLemmas.{line-at}
use Rattle.list_edits.proofs.ListingLemmas.{all_lines, line_failed, prefix_behind, said_more}
use Rattle.list_edits.proofs.ListingLemmas.{said_none, sent_behind}
use Rattle.outside.proofs.BufferOutputLemmas.{on_err}
use Rattle.list_edits.proofs.info_file.send_lines.Goals as goal

pub loop-line-init : goal.loop-line-init
loop-line-init g c = grind (arith, said_none)

pub loop-line-preserved : goal.loop-line-preserved
loop-line-preserved g c =
    let lines = c.args.lines.now in
    let i = c.loop-line.line-index in
    let line = c.line-item.result in
    record {
      done = c.in_ok-push.ensures.cause.done ∙ c.loop-line.invariant.done;
      said = said_more (λ l. l) lines
          c.loop-line.invariant.said (line-at lines
          (omega (arith, c.loop-line-test.true)) c.line-item.is)
          (rw (← c.bytes.ensures) c.in_ok-push.ensures.passed);
    }

pub returns-in_err-push-clause-prefix : goal.returns-in_err-push-clause-prefix
returns-in_err-push-clause-prefix g c =
    let lines = c.args.lines.now in
    let i = c.loop-line.line-index in
    let line = c.line-item.result in
    on_err c.from_residual.result
    (line_failed (λ l. l) lines
    c.loop-line.invariant.said (line-at lines
    (omega (arith, c.loop-line-test.true)) c.line-item.is)
    (rw (← c.bytes.ensures) c.in_err-push.ensures.prefix))

pub returns-clause-sent : goal.returns-clause-sent
returns-clause-sent g c =
    sent_behind c.finish.result _ (all_lines (λ l. l) c.args.lines.now c.loop-line.invariant.said
    (drop_all c.loop-line.line-index c.args.lines.now (omega (arith, c.loop-line-test.false))))
    c.finish.ensures.sent

pub returns-clause-prefix : goal.returns-clause-prefix
returns-clause-prefix g c =
    prefix_behind c.finish.result _ (all_lines (λ l. l) c.args.lines.now c.loop-line.invariant.said
    (drop_all c.loop-line.line-index c.args.lines.now (omega (arith, c.loop-line-test.false))))
    c.finish.ensures.prefix
