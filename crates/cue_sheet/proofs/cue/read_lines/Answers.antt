-- One line more without a fault, a fault, and the end.
use Rattle.std.proofs.{Common.{arith, inr, subst, sym, ◌∙◌}, lemmas.Bool.{eqb-false, eqb-true}}
use Rattle.cue_sheet.proofs.CuesLemmas.{are_starts, ends, goes_on, HaveRead, none_are, refused}
use Rattle.cue_sheet.proofs.{CuesLemmas.some_are, LinesLemmas.first_said, StartsLemmas.starts-few}
use Rattle.cue_sheet.specs.Cues.{cue_entries_from, cue_entry_in}
use Rattle.cue_sheet.proofs.cue.read_lines.Goals as goal

pub returns-in-Some-clause-cue : goal.returns-in-Some-clause-cue
returns-in-Some-clause-cue c =
    inr (refused c.loop-at.invariant.0 (first_said cue_entry_in c.args.text.now c.loop-at.at
    c.line_at-line.result.next c.line_at-line.ensures.line c.read_entry-entry.ensures)
    (λ before seen. sym c.in-Some.is ∙ c.fault.ensures before seen))

pub loop-at-preserved : goal.loop-at-preserved
loop-at-preserved c =
    let line = first_said cue_entry_in c.args.text.now c.loop-at.at c.line_at-line.result.next
    c.line_at-line.ensures.line c.read_entry-entry.ensures in
    let read = goes_on c.loop-at.invariant.0 line
    (λ before seen. sym c.in_default.is ∙ c.fault.ensures before seen)
    c.behind-seen.ensures.seen in (
      subst (HaveRead c.args.text.now c.line_at-line.result.next c.behind-seen.result)
          (sym c.in-Ok.ensures.kept) read,
      c.line_at-line.ensures.within,
      omega (arith, c.behind-seen.ensures.lines, c.loop-at.invariant.2, c.line_at-line.ensures.on),
      c.behind-seen.ensures.tracks,
    )

pub returns-then-is_empty-clause-cue : goal.returns-then-is_empty-clause-cue
returns-then-is_empty-clause-cue c =
    inr (ends
    c.loop-at.invariant.0 c.loop-at-test.false ∙ none_are c.loop-at.starts.items
    (sym c.loop-at.starts.ok.0 ∙ eqb-true _ 0 (sym c.is_empty.ensures ∙ c.if-is_empty.true)))

pub returns : goal.returns
returns c =
    let some = eqb-false _ 0 (sym c.is_empty.ensures ∙ c.if-is_empty.false) in
    let read = c.loop-at.invariant.0 in
    let cue = ends read
    c.loop-at-test.false
    ∙ some_are c.loop-at.starts.items (omega (arith, c.loop-at.starts.ok.0, some)) in
    let few = starts-few (cue_entries_from c.args.text.now 0) cue in
    record {
      cue = cue;
      rising = are_starts read;
      some = few.0;
      most = few.1;
    }
