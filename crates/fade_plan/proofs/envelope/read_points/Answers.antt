-- One line more, a fault, and the end.
use Rattle.std.proofs.{Common.{ap, arith, inr, sym, ◌∙◌}, lemmas.Bool.{eqb-false, eqb-true}}
use Rattle.cue_sheet.proofs.LinesLemmas.{first_said}
use Rattle.fade_plan.proofs.SheetLemmas.{at_front, ends, goes_on, none_are, refused, some_are}
use Rattle.fade_plan.specs.Sheets.{fade_entry_in, is_at_fault}
use Rattle.fade_plan.proofs.envelope.read_points.Goals as goal

pub loop-at-init : goal.loop-at-init
loop-at-init c = grind (arith, at_front)

pub loop-at-preserved : goal.loop-at-preserved
loop-at-preserved c = grind (arith, first_said, goes_on)

pub returns-then-is_at_fault-clause-envelope : goal.returns-then-is_at_fault-clause-envelope
returns-then-is_at_fault-clause-envelope c =
    let at = c.loop-at in
    let entry = c.read_entry-entry.result in
    let said = first_said fade_entry_in c.args.text.now at.at c.line_at-here.result.next
    c.line_at-here.ensures.line c.read_entry-entry.ensures.entry in
    let wrong = ap (λ n. is_at_fault n entry) (sym (c.len.ensures ∙ at.points.ok.0))
    ∙ sym c.if-is_at_fault.ensures in
    inr (refused at.invariant.0 said wrong)

pub returns-then-is_empty-clause-envelope : goal.returns-then-is_empty-clause-envelope
returns-then-is_empty-clause-envelope c =
    grind (
      arith,
      ends
          c.loop-at.invariant.0 c.loop-at-test.false,
      none_are,
      eqb-true,
    )

pub returns-clause-envelope : goal.returns-clause-envelope
returns-clause-envelope c =
    grind (
      arith,
      eqb-false,
      ends
          c.loop-at.invariant.0 c.loop-at-test.false,
      some_are,
    )
