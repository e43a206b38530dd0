-- The bytes of the areas so far are those between the two frames.
use Rattle.std.proofs.Common.{◌+◌, ◌≡◌, ◌≤◌}
use Rattle.sync_survey.specs.{Faults.survey_view, MainData.place}
use Rattle.laying.proofs.areas.first_held.Given as goal

abbrev pub invariant-loop-first : goal.invariant-loop-first
invariant-loop-first l = record {
  early : l.first ≤ l.i;
  bytes_are : place (survey_view l.survey).head (survey_view l.survey).frames l.first
      + l.bytes ≡ place (survey_view l.survey).head (survey_view l.survey).frames l.i;
}

abbrev pub decreases-loop-first : goal.decreases-loop-first
decreases-loop-first l = l.first
