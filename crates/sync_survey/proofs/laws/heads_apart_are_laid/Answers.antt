-- A survey with the head set apart and lost frames as empty ones.
use Rattle.sync_survey.proofs.EmptiedLemmas.{apart-laid}
use Rattle.sync_survey.proofs.laws.heads_apart_are_laid.Goals as goal

pub returns : goal.returns
returns c = apart-laid
