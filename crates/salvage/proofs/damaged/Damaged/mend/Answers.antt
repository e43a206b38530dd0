-- The survey with its emptied frames is laid out like that of a file without fault.
use Rattle.std.proofs.Common.{subst, sym}
use Rattle.salvage.proofs.MendedLemmas.{survey-mended}
use Rattle.sync_survey.specs.Survey.{IsSurveyLaidOut}
use Rattle.salvage.proofs.damaged.Damaged.mend.Goals as goal

pub returns-clause-laid : goal.returns-clause-laid
returns-clause-laid c = subst IsSurveyLaidOut (sym c.empty_known.ensures)
    (survey-mended c.requires)
