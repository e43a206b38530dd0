use Rattle.std.proofs.Common.{length, take, ◌-◌, ◌≡◌, ◌≤◌}
use Rattle.outside.specs.Files.{sent_and_more}
use Rattle.outside.proofs.helpers.send_all.Given as goal

abbrev pub invariant-loop-done : goal.invariant-loop-done
invariant-loop-done g l = record {
  in_range : l.done ≤ length l.bytes;
  sent : (g.T.Sink.heard l.sink).sent
      ≡ sent_and_more (g.T.Sink.heard l.initial.sink).sent (take l.done l.bytes);
  later : (g.T.Sink.heard l.initial.sink).faults ≤ (g.T.Sink.heard l.sink).faults;
  done : (g.T.Sink.heard l.sink).faults ≡ (g.T.Sink.heard l.initial.sink).faults;
}

abbrev pub decreases-loop-done : goal.decreases-loop-done
decreases-loop-done g l = length l.bytes - l.done
