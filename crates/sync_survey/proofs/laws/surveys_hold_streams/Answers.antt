-- The stream that a survey gives.
use Rattle.sync_survey.proofs.SurveyPartsLemmas.{survey_fields-stream}
use Rattle.sync_survey.proofs.laws.surveys_hold_streams.Goals as goal

pub returns : goal.returns
returns c = survey_fields-stream
