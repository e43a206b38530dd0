-- A lost frame is counted; any other adds its main data and gains.
use Rattle.std.proofs.Common.{ap, sym, ◌∙◌}
use Rattle.list_edits.proofs.TotalsLemmas.{with-lost, with-sound}
use Rattle.moved_gains.specs.GainExtremes.{extremes, side_gains}
use Rattle.side_info.specs.{FrameFields.FrameFields, Side.payload_bytes, declared.side.Side.Side}
use Rattle.list_edits.proofs.totals.SideTotals.add.Goals as goal

pub returns-then-lost-clause-with : goal.returns-then-lost-clause-with
returns-then-lost-clause-with c =
    with-lost c.args.row.now c.args.self.now (sym c.lost.ensures ∙ c.if-lost.true)

pub returns-clause-with : goal.returns-clause-with
returns-clause-with c =
    let row = c.args.row.now in
    let side = c.side_in-side.ensures.side ∙ ap (λ (f : FrameFields). f.side) c.front.ensures in
    rw (c.joined-self.ensures, c.joined-self-2.ensures)
    (with-sound row c.args.self.now
    (sym c.lost.ensures ∙ c.if-lost.false)
    (c.from.ensures ∙ c.payload_bytes.ensures ∙ ap payload_bytes side)
    (c.gains_in.ensures ∙ ap (λ (s : Side). extremes (side_gains 0 s)) side)
    (c.gains_in-2.ensures ∙ ap (λ (s : Side). extremes (side_gains 1 s)) side))
