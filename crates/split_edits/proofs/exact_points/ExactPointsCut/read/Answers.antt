-- The survey whose head is set apart.
use Rattle.std.proofs.Common.{arith}
use Rattle.cut_edits.proofs.HeadLemmas.{survey_without_head-length}
use Rattle.cut_edits.proofs.PieceLemmas.{survey_without_head-relaid}
use Rattle.sync_survey.{proofs.EmptiedLemmas.apart-laid, specs.Faults.survey_view}
use Rattle.split_edits.proofs.exact_points.ExactPointsCut.read.Goals as goal

pub returns-clause-source : goal.returns-clause-source
returns-clause-source g c = λ bytes holds. record {
  survey = c.set_apart.ensures;
  has = survey_without_head-relaid
      (c.requires.surveyed bytes holds);
  head_is = c.in_ok-head.ensures.head bytes holds;
}

pub returns-clause-laid : goal.returns-clause-laid
returns-clause-laid g c = grind (arith, apart-laid (survey_view c.args.survey) c.requires.laid)

pub returns-clause-few : goal.returns-clause-few
returns-clause-few g c = grind (arith, survey_without_head-length (survey_view c.args.survey))
