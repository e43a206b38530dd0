-- The head can be read by the survey.
use Rattle.std.proofs.Common.{ap, Option, sym}
use Rattle.commands.specs.SingleOutput.{most_frames}
use Rattle.info_header.specs.declared.fields.Info.{Info}
use Rattle.laying.proofs.SurveyFrameLemmas.{survey-had}
use Rattle.list_edits.specs.InfoText.{info_text}
use Rattle.sync_survey.specs.Faults.{survey_view}
use Rattle.list_edits.proofs.info_file.FileInfoFileText.read.Goals as goal

pub head_fields-requires-clause-exact : goal.head_fields-requires-clause-exact
head_fields-requires-clause-exact g c = λ file holds.
    survey-had most_frames (c.requires.surveyed file holds)

pub returns-in-Ok-clause-text : goal.returns-in-Ok-clause-text
returns-in-Ok-clause-text g c = λ bytes holds.
    let same = sym (c.in-Ok.ensures.fields bytes holds) in
    ap (λ (h : Option Info). info_text h (survey_view c.args.survey.now)) same
