-- The frames of a file whose head is set apart, without the head.
use Rattle.sync_survey.proofs.ApartLemmas.{placed-apart}
use Rattle.sync_survey.proofs.laws.heads_apart_are_placed.Goals as goal

pub returns : goal.returns
returns c = placed-apart
