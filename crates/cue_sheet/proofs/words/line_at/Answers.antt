-- The line ends at the first line feed.
use Rattle.std.proofs.{Common.{ap, length, sym, ◌+◌, ◌∙◌, ◌∷◌}, lemmas.List.take_rest}
use Rattle.std.specs.{Bool.◌==◌, List.before_first}
use Rattle.cue_sheet.{proofs.LinesLemmas.line_is, specs.Lines.lines_from}
use Rattle.cue_sheet.proofs.words.line_at.Goals as goal

pub returns-clause-line : goal.returns-clause-line
returns-clause-line c =
    let text = c.args.text.now in
    let line = c.text_before-line.result.now in
    line_is text line c.args.at c.requires (c.text_before-line.ensures
    ∙ ap (before_first (λ b. b == 10)) (take_rest text c.args.at))
    ∙ ap (λ l. l ∷ lines_from text (c.args.at + length line + 1)) (sym c.without_return.ensures)
