-- The parts so far were sent.
use Rattle.std.proofs.Common.{flat_map, take}
use Rattle.program_texts.specs.{Lines.{line_part_of, part_text}, Texts.GotWhole}
use Rattle.program_texts.proofs.parts.send_parts.Given as goal

abbrev pub invariant-loop-part : goal.invariant-loop-part
invariant-loop-part g l = GotWhole (g.T.Sink.heard l.initial.sink).sent (g.T.Sink.heard l.sink).sent
    (g.T.Sink.heard l.initial.sink).faults (g.T.Sink.heard l.sink).faults
    (flat_map (λ part. part_text (line_part_of part)) (take l.part-index l.parts))
