-- The head can be read by the survey.
use Rattle.commands.specs.SingleOutput.{most_frames}
use Rattle.laying.proofs.SurveyFrameLemmas.{survey-had}
use Rattle.cut_edits.proofs.heads.read_head.Goals as goal

pub head_fields-requires-clause-exact : goal.head_fields-requires-clause-exact
head_fields-requires-clause-exact g c =
    λ file holds. survey-had most_frames (c.requires.surveyed file holds)
