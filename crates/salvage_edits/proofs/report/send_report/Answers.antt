-- Line by line, then the counts, then what waits.
use Rattle.std.proofs.Common.{ap, arith, length, None, refl, Some, subst, ◌++◌, ◌∙◌}
use Rattle.list_edits.proofs.ListingLemmas.{last_failed, last_more, prefix_behind, said_failed}
use Rattle.list_edits.proofs.ListingLemmas.{said_more, said_none, sent_behind}
use Rattle.outside.{proofs.BufferOutputLemmas.on_err, specs.BufferOutput.{SendsWaiting, SentPrefix}}
use Rattle.salvage.specs.Text.{count_text, damage_lines, damage_text, line_text}
use Rattle.salvage_edits.proofs.{OrderLemmas.entries_left-all, report.send_report.Given.Over}
use Rattle.salvage_edits.specs.Ordered.{report_text}
use Rattle.sync_survey.proofs.MergeLemmas.{met}
use Rattle.salvage_edits.proofs.report.send_report.Goals as goal

pub loop-told-init : goal.loop-told-init
loop-told-init g c = record {
  done = refl;
  said = rw c.requires.empty (said_none line_text
      (damage_lines c.args.report.now.gaps.items c.args.report.now.emptied.items)
      (g.T.Sink.heard c.args.out.now).sent
      (entries_left-all c.new-lines.result c.requires.order
      (c.new-lines.ensures.firsts
      ∙ c.as_slice-gaps.ensures.value)
      (c.new-lines.ensures.seconds ∙ c.as_slice-emptied.ensures.value)));
}

pub loop-told-smaller : goal.loop-told-smaller
loop-told-smaller g c = omega (
  arith,
  ap length (met _ _ c.loop-told.lines (Some c.in-Some.told) c.next.new.self c.in-Some.ensures),
)

pub loop-told-preserved : goal.loop-told-preserved
loop-told-preserved g c = record {
  done = c.in_ok-push.ensures.cause.done ∙ c.loop-told.invariant.done;
  said = said_more line_text
      (damage_lines c.args.report.now.gaps.items c.args.report.now.emptied.items)
      c.loop-told.invariant.said
      (met _ _ c.loop-told.lines (Some c.in-Some.told) c.next.new.self c.in-Some.ensures)
      (subst (λ line. SendsWaiting (c.loop-told.buffer ++ line)
      c.push.new.self (g.T.Sink.heard c.loop-told.out).sent (g.T.Sink.heard c.push.new.sink).sent)
      (c.bytes.ensures ∙ c.set_line.ensures) c.in_ok-push.ensures.passed);
}

pub returns-in_err-push-clause-prefix : goal.returns-in_err-push-clause-prefix
unfolding damage_text
returns-in_err-push-clause-prefix g c =
    on_err c.from_residual.result
    (said_failed line_text
    (damage_lines c.args.report.now.gaps.items c.args.report.now.emptied.items)
    (count_text c.args.frames (length c.args.report.now.gaps.items)
    (length c.args.report.now.emptied.items)) c.loop-told.invariant.said
    (met _ _ c.loop-told.lines (Some c.in-Some.told) c.next.new.self c.in-Some.ensures)
    (subst (λ line. SentPrefix (c.loop-told.buffer ++ line)
    (g.T.Sink.heard c.loop-told.out).sent (g.T.Sink.heard c.push.new.sink).sent)
    (c.bytes.ensures ∙ c.set_line.ensures) c.in_err-push.ensures.prefix))

pub returns-in_err-push-2-clause-prefix : goal.returns-in_err-push-2-clause-prefix
unfolding damage_text
returns-in_err-push-2-clause-prefix g c =
    on_err c.from_residual-in_err-push-2.result
    (last_failed line_text
    (damage_lines c.args.report.now.gaps.items c.args.report.now.emptied.items)
    (count_text c.args.frames (length c.args.report.now.gaps.items)
    (length c.args.report.now.emptied.items))
    c.loop-told.invariant.said (met _ _ c.loop-told.lines None c.next.new.self c.in_default.ensures)
    (subst (λ line. SentPrefix (c.loop-told.buffer ++ line) (g.T.Sink.heard c.loop-told.out).sent
    (g.T.Sink.heard c.push-2.new.sink).sent) (c.bytes-2.ensures ∙ c.set_counts.ensures ∙ rw (
      c.as_slice-gaps.ensures.value,
      c.as_slice-emptied.ensures.value,
    ) refl) c.in_err-push-2.ensures.prefix))

-- all lines and the counts wait or were sent
all-said : (g : Over) (c : goal.After-finish g)
    → SendsWaiting (report_text c.args.frames c.args.report.now)
    c.push-2.new.self (g.T.Sink.heard c.args.out.now).sent (g.T.Sink.heard c.push-2.new.sink).sent
unfolding damage_text
all-said g c =
    last_more line_text (damage_lines c.args.report.now.gaps.items c.args.report.now.emptied.items)
    (count_text c.args.frames (length c.args.report.now.gaps.items)
    (length c.args.report.now.emptied.items))
    c.loop-told.invariant.said (met _ _ c.loop-told.lines None c.next.new.self c.in_default.ensures)
    (subst (λ line. SendsWaiting (c.loop-told.buffer ++ line)
    c.push-2.new.self (g.T.Sink.heard c.loop-told.out).sent (g.T.Sink.heard c.push-2.new.sink).sent)
    (c.bytes-2.ensures ∙ c.set_counts.ensures ∙ rw (
      c.as_slice-gaps.ensures.value,
      c.as_slice-emptied.ensures.value,
    ) refl) c.in_ok-push-2.ensures.passed)

pub returns-clause-sent : goal.returns-clause-sent
returns-clause-sent g c = sent_behind c.finish.result _ (all-said g c) c.finish.ensures.sent

pub returns-clause-prefix : goal.returns-clause-prefix
returns-clause-prefix g c = prefix_behind c.finish.result _ (all-said g c) c.finish.ensures.prefix
