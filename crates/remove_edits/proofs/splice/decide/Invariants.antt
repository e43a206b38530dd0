-- The parts so far are a splice.
use Rattle.std.proofs.Common.{take}
use Rattle.remove_edits.specs.Ready.{HasSpliceTo}
use Rattle.sync_survey.specs.Faults.{survey_view}
use Rattle.remove_edits.proofs.splice.decide.Given as goal

abbrev pub invariant-loop-number : goal.invariant-loop-number
invariant-loop-number l =
    HasSpliceTo (survey_view l.survey) (take l.number l.parts) l.splice l.decided
