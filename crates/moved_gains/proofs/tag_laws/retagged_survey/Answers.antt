-- The file with another tag is made of the same items except the tag.
use Rattle.moved_gains.proofs.RetaggedFileLemmas.{survey_fields-retagged_fields}
use Rattle.moved_gains.proofs.tag_laws.retagged_survey.Goals as goal

pub returns : goal.returns
returns c = survey_fields-retagged_fields
