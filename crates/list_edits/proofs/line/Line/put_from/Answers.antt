-- What is removed belongs to the new text alone.
use Rattle.std.proofs.{Common.{ap, drop, ◌∙◌}, lemmas.List.drop-append-le}
use Rattle.list_edits.proofs.line.Line.put_from.Goals as goal

pub returns : goal.returns
returns c = c.skip.ensures ∙ ap (drop c.args.start) c.put.ensures
    ∙ drop-append-le c.args.start c.args.text.now c.args.self.now c.requires.start
