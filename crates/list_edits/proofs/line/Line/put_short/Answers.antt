-- Two digits, and the hundreds before them.
use Rattle.std.proofs.Common.{ap, arith, refl, sym, ◌++◌, ◌∙◌}
use Rattle.list_edits.proofs.DecimalLemmas.{decimal_two, put_split}
use Rattle.list_edits.proofs.line.Line.put_short.Goals as goal

pub returns-then-number-ge1000 : goal.returns-then-number-ge1000
returns-then-number-ge1000 c =
    let s = c.split-hundreds.ensures in
    let two =
    decimal_two (omega (arith, s.hundreds)) (omega (arith, s.hundreds)) in
    put_split c.if-number-ge100.true c.requires.short s.hundreds s.rest c.put_pair.ensures
    (c.put_pair-then-number-ge1000.ensures ∙ ap (λ ds. ds ++ c.put_pair.new.self) (sym two))

pub returns-then-number-ge100 : goal.returns-then-number-ge100
returns-then-number-ge100 c =
    let s = c.split-hundreds.ensures in
    put_split c.if-number-ge100.true c.requires.short s.hundreds
    s.rest c.put_pair.ensures c.put_digit.ensures

pub returns-then-number-ge10 : goal.returns-then-number-ge10
returns-then-number-ge10 c = rw (
  c.put_pair-then-number-ge10.ensures,
  decimal_two c.if-number-ge10.true c.if-number-ge100.false,
) refl
