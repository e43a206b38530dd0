-- The head that is lent is the one that was read.
use Rattle.sync_survey.specs.Faults.{survey_view}
use Rattle.list_edits.proofs.info_file.FileInfoFileText.send.Goals as goal

pub returns-clause-sent : goal.returns-clause-sent
returns-clause-sent g c =
    let heard = g.T.Sink.heard in
    let s = survey_view c.args.survey.now in
    let old = heard c.args.out.now in
    let new = heard c.send_info.new.out in
    rw (← c.as_ref.ensures.value) c.send_info.ensures.sent

pub returns-clause-prefix : goal.returns-clause-prefix
returns-clause-prefix g c =
    let heard = g.T.Sink.heard in
    let s = survey_view c.args.survey.now in
    let old = heard c.args.out.now in
    let new = heard c.send_info.new.out in
    rw (← c.as_ref.ensures.value) c.send_info.ensures.prefix
