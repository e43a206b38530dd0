-- A digit is its own text.
use Rattle.std.proofs.{Common.refl, lemmas.Fmt.decimal_digit}
use Rattle.list_edits.proofs.line.Line.put_digit.Goals as goal

pub returns : goal.returns
returns c = rw (c.put.ensures, decimal_digit c.args.digit c.requires.digit) refl
