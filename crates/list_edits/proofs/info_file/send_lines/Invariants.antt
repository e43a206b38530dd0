-- The lines so far wait or were sent, and no write failed.
use Rattle.std.proofs.Common.{drop, ◌≡◌}
use Rattle.list_edits.proofs.ListingLemmas.{IsSaidTo}
use Rattle.list_edits.proofs.info_file.send_lines.Given as goal

abbrev pub invariant-loop-line : goal.invariant-loop-line
invariant-loop-line g l = record {
  done : (g.T.Sink.heard l.out).faults ≡ (g.T.Sink.heard l.initial.out).faults;
  said : IsSaidTo (λ line. line) l.lines (drop l.line-index l.lines)
      l.buffer (g.T.Sink.heard l.initial.out).sent (g.T.Sink.heard l.out).sent;
}
