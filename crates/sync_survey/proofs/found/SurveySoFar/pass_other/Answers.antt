-- A whole frame is shown up to its area.
use Rattle.sync_survey.proofs.StepLemmas.{room_passed}
use Rattle.sync_survey.proofs.found.SurveySoFar.pass_other.Goals as goal

pub keep-requires-clause-room : goal.keep-requires-clause-room
keep-requires-clause-room c = room_passed c.in-Some.ensures.passes c.requires.many
