-- The inputs so far begin behind what is left out of them.
use Rattle.std.proofs.Common.{drop, map, take, ◌++◌, ◌≡◌}
use Rattle.joined_inputs.specs.Inputs.{input_view}
use Rattle.seamless_edits.specs.Deciding.{from_places, left_out_of}
use Rattle.seamless_edits.proofs.decided.Decided.leave_out.Given as goal

abbrev pub invariant-loop-input : goal.invariant-loop-input
invariant-loop-input l = record {
  place : l.place ≡ l.input-index;
  inputs : map input_view l.inputs
      ≡ from_places (take l.input-index (map input_view l.initial.inputs)) (left_out_of l.self)
      ++ drop l.input-index (map input_view l.initial.inputs);
}
