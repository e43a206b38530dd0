-- Nothing is after the end.
use Rattle.std.proofs.{Common.arith, lemmas.List.drop_all}
use Rattle.list_edits.proofs.line.Line.clear.Goals as goal

pub returns : goal.returns
returns c = drop_all 192 c.self.inside.room (omega arith)
