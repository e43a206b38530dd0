-- One frame more goes into the totals, until none is left.
use Rattle.std.proofs.{Common.{ap, arith}, lemmas.List.drop_all}
use Rattle.list_edits.proofs.{InfoLemmas.row-at, TotalsLemmas.{all-met, at-first, before-next}}
use Rattle.list_edits.specs.declared.totals.{HeaderTotals.HeaderTotals, SideTotals.SideTotals}
use Rattle.list_edits.proofs.totals.totals_of.Goals as goal

pub loop-row-init : goal.loop-row-init
loop-row-init c =
    let header = c.before-headers.ensures in
    let side = c.none-sides.ensures in
    record {
      before = at-first c.requires.some c.index-rows-0.is
          c.bit_rate.ensures header side;
      areas = omega (arith, ap (λ (h : HeaderTotals). h.areas) header);
      lengths = omega (arith, ap (λ (h : HeaderTotals). h.lengths) header);
      lost = omega (arith, ap (λ (s : SideTotals). s.lost) side);
      main_data = omega (arith, ap (λ (s : SideTotals). s.main_data) side);
    }

pub loop-row-preserved : goal.loop-row-preserved
loop-row-preserved c = search (arith, row-at, before-next)

pub returns : goal.returns
returns c =
    let rows = c.args.rows.now in
    let i = c.loop-row.row-index in
    let before = c.loop-row.invariant in
    let none = drop_all i rows (omega (arith, c.loop-row-test.false)) in
    let headers = c.loop-row.headers in
    let sides = c.loop-row.sides in
    let met = rw none at before.before in
    all-met met (omega (arith, before.areas, c.loop-row-test.false))
    (omega (arith, before.lengths, c.loop-row-test.false))
