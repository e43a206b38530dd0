-- Line by line, then the summary, then what waits.
use Rattle.std.proofs.Common.{ap, arith, length, refl, subst, sym, ◌++◌, ◌∙◌}
use Rattle.list_edits.proofs.ListingLemmas.{last_failed, last_more, prefix_behind, said_failed}
use Rattle.list_edits.proofs.ListingLemmas.{said_more, said_none, sent_behind}
use Rattle.list_edits.proofs.list_file.send_listing.Given.{Over}
use Rattle.list_edits.specs.Listing.{listing, summary, thing_line}
use Rattle.list_edits.specs.Things.{ordered_things, things_of}
use Rattle.outside.{proofs.BufferOutputLemmas.on_err, specs.BufferOutput.{SendsWaiting, SentPrefix}}
use Rattle.sync_survey.specs.Faults.{survey_view}
use Rattle.list_edits.proofs.list_file.send_listing.Goals as goal

pub loop-things-init : goal.loop-things-init
loop-things-init g c = record {
  done = refl;
  listed = grind (arith, said_none);
}

pub loop-things-smaller : goal.loop-things-smaller
loop-things-smaller g c =
    omega (arith, ap length (c.set_next_line.ensures.line c.loop-things-test.true).first)

pub loop-things-preserved : goal.loop-things-preserved
loop-things-preserved g c =
    let next = c.set_next_line.ensures.line c.loop-things-test.true in
    record {
      done = c.in_ok-push.ensures.cause.done ∙ c.loop-things.invariant.done;
      listed = grind (arith, said_more);
    }

pub returns-in_err-push-clause-prefix : goal.returns-in_err-push-clause-prefix
unfolding listing
returns-in_err-push-clause-prefix g c =
    let next = c.set_next_line.ensures.line c.loop-things-test.true in
    on_err c.from_residual.result
    (said_failed thing_line (ordered_things (things_of (survey_view c.args.survey.now)))
    (summary (survey_view c.args.survey.now).class (length (survey_view c.args.survey.now).frames))
    c.loop-things.invariant.listed next.first
    (subst (λ line. SentPrefix (c.loop-things.buffer ++ line)
    (g.T.Sink.heard c.loop-things.out).sent (g.T.Sink.heard c.push.new.sink).sent)
    (c.bytes.ensures ∙ sym next.line) c.in_err-push.ensures.prefix))

pub returns-in_err-push-2-clause-prefix : goal.returns-in_err-push-2-clause-prefix
unfolding listing
returns-in_err-push-2-clause-prefix g c =
    on_err c.from_residual-in_err-push-2.result
    (last_failed thing_line (ordered_things (things_of (survey_view c.args.survey.now)))
    (summary (survey_view c.args.survey.now).class (length (survey_view c.args.survey.now).frames))
    c.loop-things.invariant.listed (c.set_next_line.ensures.none c.loop-things-test.false)
    (subst (λ line. SentPrefix (c.loop-things.buffer ++ line)
    (g.T.Sink.heard c.loop-things.out).sent (g.T.Sink.heard c.push-2.new.sink).sent)
    (c.bytes-2.ensures ∙ c.set_summary.ensures ∙ rw (c.class.ensures, c.frames.ensures) refl)
    c.in_err-push-2.ensures.prefix))

-- all lines and the summary wait or were sent
all_listed : (g : Over) (c : goal.After-drop-buffer-inside-2 g)
    → SendsWaiting (listing (survey_view c.args.survey.now))
    c.push-2.new.self (g.T.Sink.heard c.args.out.now).sent (g.T.Sink.heard c.push-2.new.sink).sent
unfolding listing
all_listed g c =
    last_more thing_line (ordered_things (things_of (survey_view c.args.survey.now)))
    (summary (survey_view c.args.survey.now).class (length (survey_view c.args.survey.now).frames))
    c.loop-things.invariant.listed (c.set_next_line.ensures.none c.loop-things-test.false)
    (subst (λ line. SendsWaiting (c.loop-things.buffer ++ line) c.push-2.new.self
    (g.T.Sink.heard c.loop-things.out).sent (g.T.Sink.heard c.push-2.new.sink).sent)
    (c.bytes-2.ensures ∙ c.set_summary.ensures ∙ rw (c.class.ensures, c.frames.ensures) refl)
    c.in_ok-push-2.ensures.passed)

pub returns-clause-sent : goal.returns-clause-sent
returns-clause-sent g c = sent_behind c.finish.result _ (all_listed g c) c.finish.ensures.sent

pub returns-clause-prefix : goal.returns-clause-prefix
returns-clause-prefix g c = prefix_behind c.finish.result _ (all_listed g c) c.finish.ensures.prefix
