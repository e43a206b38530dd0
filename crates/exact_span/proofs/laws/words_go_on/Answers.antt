-- A fold over joined bytes.
use Rattle.std.proofs.{Common.sym, lemmas.List.Sums.fold-append}
use Rattle.exact_span.specs.TagWord.{arc_byte}
use Rattle.exact_span.proofs.laws.words_go_on.Goals as goal

pub returns : goal.returns
returns c = λ word x y. sym (fold-append arc_byte word x y)
