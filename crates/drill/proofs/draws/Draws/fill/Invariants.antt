-- The bytes so far were drawn.
use Rattle.std.proofs.Common.{drop, ◌++◌, ◌≡◌}
use Rattle.drill.specs.{Draws.state_after, Drill.drawn_bytes}
use Rattle.drill.proofs.draws.Draws.fill.Given as goal

abbrev pub invariant-loop-byte : goal.invariant-loop-byte
invariant-loop-byte l = record {
  bytes : l.bytes ≡ drawn_bytes l.byte-index l.fn.self.state ++ drop l.byte-index l.initial.bytes;
  state : l.self.state ≡ state_after l.byte-index l.fn.self.state;
}
