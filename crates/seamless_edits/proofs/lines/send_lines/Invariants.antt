-- The lines so far wait or were sent, and no write failed.
use Rattle.std.proofs.Common.{drop, length, map, vec_items, ◌+◌, ◌≡◌, ◌≤◌}
use Rattle.joined_inputs.specs.Inputs.{input_names, input_view}
use Rattle.list_edits.proofs.ListingLemmas.{IsSaidTo}
use Rattle.seamless_edits.specs.{Lines.told_by, Seamless.told_line}
use Rattle.seamless_edits.proofs.lines.send_lines.Given as goal

abbrev pub invariant-loop-place : goal.invariant-loop-place
invariant-loop-place g l = record {
  within : l.place ≤ length l.joints;
  done : (g.T.Sink.heard l.out).faults ≡ (g.T.Sink.heard l.fn.out).faults;
  said : IsSaidTo told_line
      (told_by (drop 1 (input_names (map input_view l.inputs))) l.joints
      (drop 1 (map vec_items l.lost)))
      (told_by (drop (l.place + 1) (input_names (map input_view l.inputs))) (drop l.place l.joints)
      (drop (l.place + 1) (map vec_items l.lost)))
      l.buffer
      (g.T.Sink.heard l.fn.out).sent (g.T.Sink.heard l.out).sent;
}
