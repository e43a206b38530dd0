-- The inputs before have become parts.
use Rattle.std.proofs.Common.{map, take, ◌≡◌}
use Rattle.joined_inputs.specs.Inputs.{input_view, survey_rows}
use Rattle.laying.specs.Needs.{plan_input}
use Rattle.join_edits.proofs.planned.parts_of.Given as goal

abbrev pub invariant-loop-input : goal.invariant-loop-input
invariant-loop-input l =
    l.parts ≡ plan_input (survey_rows (map input_view (take l.input-index l.inputs)))
