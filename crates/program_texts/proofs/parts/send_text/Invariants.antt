-- The texts so far were sent.
use Rattle.std.proofs.Common.{flat_map, take}
use Rattle.program_texts.specs.Texts.{GotWhole}
use Rattle.program_texts.proofs.parts.send_text.Given as goal

abbrev pub invariant-loop-piece : goal.invariant-loop-piece
invariant-loop-piece g l = GotWhole (g.T.Sink.heard l.initial.sink).sent
    (g.T.Sink.heard l.sink).sent (g.T.Sink.heard l.initial.sink).faults
    (g.T.Sink.heard l.sink).faults (flat_map (λ piece. piece.now) (take l.piece-index l.pieces))
