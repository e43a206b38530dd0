-- What a file's survey is, clause by clause; and the fault that is returned is the first.
use Rattle.std.proofs.{Common.{length, rules, ◌≤◌}, lemmas.Result.IfOk-weaker}
use Rattle.sync_survey.{proofs.FirstFaultLemmas.refused_first, specs.Faults.survey_view}
use Rattle.sync_survey.specs.Survey.{IsSurveyLaidOut, IsSurveyOf, IsWholeSurvey}
use Rattle.sync_survey.proofs.folders.survey.Goals as goal

pub returns : goal.returns
returns g c = record {
  exact = let name = c.args.name.now in
      let files = (g.D.Folder.seen c.args.folder.now).files in
      IfOk-weaker c.survey_file.result
      (λ s. IsWholeSurvey name files c.args.allowed (survey_view s))
      (λ s. IsSurveyOf name files c.args.allowed (survey_view s))
      (λ s is. is.exact) c.survey_file.ensures.frames.surveyed;
  laid = IfOk-weaker c.survey_file.result (λ s. IsWholeSurvey c.args.name.now
      (g.D.Folder.seen c.args.folder.now).files c.args.allowed (survey_view s))
      (λ s. IsSurveyLaidOut (survey_view s))
      (λ s is. is.laid) c.survey_file.ensures.frames.surveyed;
  few = IfOk-weaker c.survey_file.result (λ s. IsWholeSurvey c.args.name.now
      (g.D.Folder.seen c.args.folder.now).files c.args.allowed (survey_view s)) (λ s.
      length (survey_view s).frames
      ≤ c.args.allowed) (λ s is. is.few) c.survey_file.ensures.frames.surveyed;
  there = search rules;
  octets = search rules;
  done = search rules;
  refused = search rules;
  numbers = search rules;
  first = refused_first c.args.name.now (g.D.Folder.seen c.args.folder.now).files c.args.allowed
      (g.D.Folder.seen c.args.folder.now).counts (g.D.Folder.seen c.survey_file.new.folder).counts
      c.survey_file.result c.survey_file.ensures.frames.refused;
  files = search rules;
  counts = search rules;
}
