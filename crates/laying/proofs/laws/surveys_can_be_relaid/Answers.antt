-- The head, the frames and the blocks of the walk are whole.
use Rattle.laying.proofs.SurveyFrameLemmas.{surveys-had}
use Rattle.laying.proofs.laws.surveys_can_be_relaid.Goals as goal

pub returns : goal.returns
returns c = surveys-had
