-- The frames of a file without fault.
use Rattle.sync_survey.proofs.PlacedRowLemmas.{survey_fields-placed}
use Rattle.sync_survey.proofs.laws.surveys_are_placed.Goals as goal

pub returns : goal.returns
returns c = survey_fields-placed
