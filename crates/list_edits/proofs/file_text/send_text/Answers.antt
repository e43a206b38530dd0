-- What the call leaves, given the survey, what was read besides, and what was sent of the text.
use Rattle.std.{proofs.Common.{ap₂, ◌∙◌, ◌≡◌}, specs.Prelude.{IfErr, OnOk}}
use Rattle.commands.proofs.SurveyedLemmas.{survey_left}
use Rattle.commands.specs.AfterCall.{HasNumbers, IsCommandDone, IsCommandFault}
use Rattle.commands.specs.Command.{HoldsStreams}
use Rattle.list_edits.proofs.TextLemmas.{begins, HasText, holds_streams, is_done, no_room}
use Rattle.list_edits.proofs.TextLemmas.{refused_run, says, told_by, unsent}
use Rattle.list_edits.{proofs.file_text.send_text.Goals.In_ok-text, specs.TextCommand.text_command}
use Rattle.outside.{proofs.CountsLemmas.only_reads_same, specs.{Counts.OnlyReads, Seen.seen_folder}}
use Rattle.sync_survey.specs.Faults.{survey_view}
use Rattle.list_edits.proofs.file_text.send_text.Given as given
use Rattle.list_edits.proofs.file_text.send_text.Goals as goal

pub returns-in_err-survey : goal.returns-in_err-survey
returns-in_err-survey g c =
    let text = g.K.FileText.text in
    let left = survey_left (begins text c.args.input.now) _ _ _ c.in_err-survey.ensures.refused in
    let reads = c.survey_at.ensures.reads in
    refused_run text _ _ c.from_residual.ensures.1 left
    c.in_err-survey.ensures.numbers reads.files reads.counts

pub returns-in_err-text : goal.returns-in_err-text
returns-in_err-text g c =
    let text = g.K.FileText.text in
    let input = c.args.input.now in
    let new = g.D.Folder.seen c.read.new.folder in
    let fault = c.in_err-text.field-0.0 in
    let files = c.survey_at.ensures.reads.files in
    let counts = c.in_ok-survey.ensures.reads.done in
    let refused = rw (ap₂ seen_folder files counts) at c.in_err-text.ensures.refused in
    let end = c.from_residual-in_err-text in
    refused_run text _ _ end.ensures.1
    (survey_left (begins text input) _ _ _ refused) c.in_err-text.ensures.numbers
    (c.read.ensures.reads.files ∙ files)
    (rw (← counts) c.read.ensures.reads.counts)

-- where the input's bytes are known, their text is the text from what was read
has_text : (g : given.Over) (c : In_ok-text g) → HasText g.K.FileText.text c.args.input.now
    (g.D.Folder.seen c.args.folder.now).files (survey_view c.in_ok-survey.survey)
    (g.K.FileText.said c.in_ok-text.text (survey_view c.in_ok-survey.survey))
has_text g c = let files = c.survey_at.ensures.reads.files in record {
  there = c.in_ok-survey.ensures.there;
  surveyed = c.in_ok-survey.ensures.surveyed;
  text_is = λ bytes holds. c.in_ok-text.ensures.text bytes (rw files holds);
}

-- neither files nor counts changed
files_stay : (g : given.Over) (c : In_ok-text g)
    → (g.D.Folder.seen c.read.new.folder).files ≡ (g.D.Folder.seen c.args.folder.now).files
files_stay g c = c.read.ensures.reads.files ∙ c.survey_at.ensures.reads.files

counts_stay : (g : given.Over) (c : In_ok-text g)
    → (g.D.Folder.seen c.read.new.folder).counts ≡ (g.D.Folder.seen c.args.folder.now).counts
counts_stay g c = c.in_ok-text.ensures.reads.done ∙ c.in_ok-survey.ensures.reads.done

only_read : (g : given.Over) (c : In_ok-text g) → OnlyReads
    (g.D.Folder.seen c.args.folder.now).counts (g.D.Folder.seen c.read.new.folder).counts
only_read g c =
    let old = (g.D.Folder.seen c.args.folder.now).counts in
    rw (counts_stay g c) (only_reads_same old)

pub returns-in_err-buffer : goal.returns-in_err-buffer
returns-in_err-buffer g c =
    let h = (goal.at.returns-in_err-buffer g c).In_ok-text in
    let end = c.from_residual-in_err-buffer in
    refused_run g.K.FileText.text _ _ end.ensures.1
    (no_room (has_text g h) (files_stay g h) (counts_stay g h))
    tt (files_stay g h) (only_read g h)

pub returns : goal.returns
returns g c =
    let h = (goal.at.returns g c).In_ok-text in
    let has = has_text g h in
    let command = text_command g.K.FileText.text c.args.input.now in
    let old = g.D.Folder.seen c.args.folder.now in
    let new = g.D.Folder.seen c.read.new.folder in
    let sink = g.T.Sink in
    let fault = c.tell.ensures.fault in
    record {
      done = told_by (λ r. OnOk r (IsCommandDone command old new))
          (λ x. is_done has (files_stay g h) (counts_stay g h)) tt fault;
      left = told_by (λ r. IfErr r (IsCommandFault command old new)) (λ x. tt)
          (unsent has (files_stay g h) (counts_stay g h)) fault;
      says = says has {old = sink.heard c.args.out.now} {new = sink.heard c.tell.new.out}
          {result = c.tell.result} (record {
            fault = fault;
            sent = c.tell.ensures.sent;
            prefix = c.tell.ensures.prefix;
            cause = c.tell.ensures.cause;
          });
      numbers = told_by (λ r. IfErr r (HasNumbers command)) (λ x. tt) (λ none. absurd cc) fault;
      streams =
          told_by (λ r. OnOk r (HoldsStreams command old.files)) (λ x. holds_streams has) tt fault;
      files = files_stay g h;
      counts = only_read g h;
    }
