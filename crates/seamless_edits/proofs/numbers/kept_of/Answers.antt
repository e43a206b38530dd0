-- The first head and the last, and what is made of them.
use Rattle.std.proofs.{Common.{arith, length-drop, option_copied, option_map}, lemmas.List.take_all}
use Rattle.seamless_edits.proofs.NumberLemmas.{first-head, last-head}
use Rattle.seamless_edits.proofs.numbers.kept_of.Goals as goal

pub returns : goal.returns
returns c = grind (arith, option_copied, first-head, last-head, take_all, length-drop, option_map)
