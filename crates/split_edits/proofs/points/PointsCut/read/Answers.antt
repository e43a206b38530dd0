-- The survey stays as it is.
use Rattle.std.proofs.Common.{refl}
use Rattle.commands.specs.SingleOutput.{most_frames}
use Rattle.laying.proofs.SurveyFrameLemmas.{survey-had}
use Rattle.split_edits.proofs.points.PointsCut.read.Goals as goal

pub returns-clause-source : goal.returns-clause-source
returns-clause-source g c = λ bytes holds. record {
  survey = refl;
  has = survey-had most_frames (c.requires.surveyed bytes holds);
  head_is = refl;
}
