-- The heads of the surveys so far are set apart, and the numbers of their lost frames are listed.
use Rattle.std.proofs.Common.{drop, map, take, vec_items, ◌++◌, ◌≡◌}
use Rattle.joined_inputs.specs.Inputs.{input_view}
use Rattle.seamless_edits.specs.{Beginnings.input_without_head, LostFrames.lost_in_input}
use Rattle.seamless_edits.proofs.apart.set_all_apart.Given as goal

abbrev pub invariant-loop-input : goal.invariant-loop-input
invariant-loop-input l = record {
  apart : map input_view l.inputs
      ≡ map input_without_head (take l.input-index (map input_view l.initial.inputs))
      ++ drop l.input-index (map input_view l.initial.inputs);
  lost : map vec_items l.lost.items
      ≡ map lost_in_input (take l.input-index (map input_view l.initial.inputs));
}
