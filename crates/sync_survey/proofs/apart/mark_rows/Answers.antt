-- One more frame is marked; after the last one that may be lost, the others are unchanged.
use Rattle.std.proofs.Common.{ap, arith, length, min, sym, ◌+◌, ◌-◌, ◌<◌, ◌^◌, ◌∙◌, ◌≤◌}
use Rattle.sync_survey.proofs.ApartRowLemmas.{marked-all, marked-last, marked-next, marked-none}
use Rattle.sync_survey.specs.{MainData.own_area, Row.Row}
use Rattle.sync_survey.proofs.apart.mark_rows.Goals as goal

pub loop-row-init : goal.loop-row-init
loop-row-init c = marked-none c.args.rows.now

pub loop-row-preserved : goal.loop-row-preserved
loop-row-preserved c =
    let at = c.loop-row in
    let within : at.row-index < length c.args.rows.now =
    omega (arith, c.loop-row-test.true, at.auto.rows) in
    let header = c.header.ensures ∙ ap (λ (q : Row). q.header) c.mark_apart.ensures.row in
    marked-next c.args.rows.now _ at.invariant within
    c.mark_apart.ensures.row c.mark_apart.ensures.near (sym c.if-not-mark_apart.ensures.empty)
    (c.saturating_add-areas.ensures ∙ ap (λ n. min (at.areas + n) (2 ^ 64 - 1))
    (c.from.ensures ∙ c.area.ensures.area ∙ ap own_area header))

pub returns-after-loop-row : goal.returns-after-loop-row
returns-after-loop-row c =
    let at = c.loop-row in
    let all : length c.args.rows.now ≤ at.row-index =
    omega (arith, c.loop-row-test.false, at.auto.rows) in
    marked-all c.args.rows.now at.invariant all

pub returns-then-not-mark_apart : goal.returns-then-not-mark_apart
returns-then-not-mark_apart c = grind (arith, marked-last)
